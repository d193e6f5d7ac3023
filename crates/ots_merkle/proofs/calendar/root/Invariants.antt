use Rattle.std.proofs.Common.{◌≡◌, take, replicate, None}
use Rattle.ots_merkle.specs.Row.{all_added}
use Rattle.ots_merkle.proofs.calendar.root.Given as goal

abbrev pub invariant-loop-leaf : goal.invariant-loop-leaf
invariant-loop-leaf l = l.row ≡ all_added (replicate 32 None) (take l.leaf-index l.leaves)
