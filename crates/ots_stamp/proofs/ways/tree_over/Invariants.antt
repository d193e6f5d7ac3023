use Rattle.std.proofs.Common.{◌≡◌, take}
use Rattle.ots_stamp.proofs.ways.tree_over.Given as goal

abbrev pub invariant-loop-leaf : goal.invariant-loop-leaf
invariant-loop-leaf l = l.tree.leaves ≡ take l.leaf-index l.leaves
