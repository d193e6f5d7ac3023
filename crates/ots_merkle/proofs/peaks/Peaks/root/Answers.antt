use Rattle.std.proofs.Common.{◌∙◌}
use Rattle.ots_merkle.proofs.Rows.{root_of_row}
use Rattle.ots_merkle.proofs.peaks.Peaks.root.Goals as goal

pub returns : goal.returns
returns c =
    rw (← c.self.view_is)
    (c.fold.ensures ∙ root_of_row c.deref.result.now 0 c.self.inside.pushed.leaves (c.deref.ensures.value ∙ c.self.invariant))
