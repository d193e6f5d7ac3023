use Rattle.std.proofs.Common.{ap, ◌∙◌, arith}
use Rattle.ots_shared.specs.Steps.{Sat}
use Rattle.ots_shared.proofs.Callers.{joins}
use Rattle.ots_shared.proofs.Turns.{settles}
use Rattle.ots_shared.proofs.steps.glue.Goals as goal

pub join_seat-requires : goal.join_seat-requires
join_seat-requires g c =
    let three = c.requires.own.0.1 in
    let i = c.requires.idle in (c.requires.own.0.0, c.requires.own.1.0, c.requires.none, omega arith, joins _ _ _ _ _ _ i.0 i.1 c.requires.share)

pub load-requires : goal.load-requires
load-requires g c =
    let three = c.requires.own.0.1 in
    let j = c.join_seat.ensures in (j.0 ∙ c.requires.own.0.0, omega arith, settles _ _ _ _ _ (ap (λ (m : Sat g.row.D.Denot). m.0.stage) j.2 ∙ c.requires.idle.0))
