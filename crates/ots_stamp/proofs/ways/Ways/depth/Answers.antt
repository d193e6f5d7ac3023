use Rattle.std.proofs.Common.{ap, length, arith}
use Rattle.ots_stamp.proofs.WayLemmas.{shallow}
use Rattle.ots_stamp.proofs.ways.Ways.depth.Goals as goal

pub returns-clause-shallow : goal.returns-clause-shallow
returns-clause-shallow c = λ h most.
    shallow c.self.inside.leaves.items c.self.inside.depth h c.self.invariant.depth_is (omega (arith, ap length c.self.view_is, most))
