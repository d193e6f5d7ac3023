use Rattle.std.proofs.Common.{◌≡◌, ◌++◌, take}
use Rattle.ots_bitcoin_rows.proofs.trees.grow.Given as goal

-- The leaves up to here were pushed.
abbrev pub invariant-loop-leaf : goal.invariant-loop-leaf
invariant-loop-leaf l = l.tree.leaves ≡ l.initial.tree.leaves ++ take l.leaf-index l.leaves
