use Rattle.std.proofs.Common.{◌∙◌, arith}
use Rattle.std.specs.Prelude.{vec_capacity}
use Rattle.ots_merkle.proofs.Spare.{spare_kept, spare_for_any}
use Rattle.ots_merkle.proofs.peaks.Peaks.reserve.Goals as goal

pub returns-clause-kept : goal.returns-clause-kept
returns-clause-kept c =
    rw (← c.self.view_is)
    (spare_kept (vec_capacity c.self.inside.row) (vec_capacity c.reserve.new.self) _ c.in_ok-reserve.ensures.capacity)

pub returns-clause-spare : goal.returns-clause-spare
returns-clause-spare c =
    spare_for_any c.reserve.new.self.items c.self.inside.pushed.leaves (vec_capacity c.reserve.new.self) c.args.pushes
    (c.in_ok-reserve.ensures.items ∙ c.self.invariant) (omega (arith, c.in_ok-reserve.ensures.ok, c.reserve.new.self.ok.0)) (omega (arith, c.ranges.pushes.fits))
