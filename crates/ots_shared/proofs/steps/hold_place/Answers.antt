use Rattle.std.proofs.Common.{ap, ◌∙◌}
use Rattle.ots_shared.specs.Steps.{Sat}
use Rattle.ots_shared.proofs.steps.hold_place.Goals as goal

pub take-requires-clause-own : goal.take-requires-clause-own
take-requires-clause-own g c = (c.loop.invariant.0.0 ∙ c.requires.own.0, c.requires.own.1)

pub take-requires-clause-drawn : goal.take-requires-clause-drawn
take-requires-clause-drawn g c = let i = c.loop.invariant.1 in (i.0, ap (λ (m : Sat g.row.D.Denot). m.0.stage) i.1, i.2)

pub take-requires-clause-none : goal.take-requires-clause-none
take-requires-clause-none g c = ap (λ (m : Sat g.row.D.Denot). m.1) c.loop.invariant.1.1 ∙ c.requires.none
