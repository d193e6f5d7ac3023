use Rattle.std.proofs.Common.{take}
use Rattle.ots_canon.specs.Leading.{IsLeastHeight}
use Rattle.ots_canon.proofs.pruning.least_height.Given as goal

abbrev pub invariant-loop-at : goal.invariant-loop-at
invariant-loop-at l = IsLeastHeight (take l.at l.tokens) l.least
