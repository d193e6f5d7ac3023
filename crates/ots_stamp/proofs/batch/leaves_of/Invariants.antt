use Rattle.std.proofs.Common.{◌≡◌, take, map}
use Rattle.ots_stamp.specs.Stamped.{leaf}
use Rattle.ots_stamp.proofs.batch.leaves_of.Given as goal

abbrev pub invariant-loop-target : goal.invariant-loop-target
invariant-loop-target l = l.leaves.items ≡ take l.target-index (map leaf l.targets)
