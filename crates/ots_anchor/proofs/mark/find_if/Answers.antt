use Rattle.ots_anchor.proofs.mark.find_if.Goals as goal

pub returns-else-stands : goal.returns-else-stands
returns-else-stands c = λ k low high. c.requires c.if-stands.false k
