use Rattle.std.proofs.Common.{arith}
use Rattle.ots_shared.proofs.Turns.{counts}
use Rattle.ots_shared.proofs.steps.count.Goals as goal

pub load-requires : goal.load-requires
load-requires g c = let three = c.requires.own.1 in (c.requires.own.0, omega arith, counts _ _ _ _ _ c.requires.idle)
