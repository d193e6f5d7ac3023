use Rattle.std.proofs.Common.{take}
use Rattle.ots_draft.specs.inner.Gathering.{AreTrees}
use Rattle.ots_draft.proofs.gathering.are_trees.Given as goal

-- So are the trees before.
abbrev pub invariant-loop-tree : goal.invariant-loop-tree
invariant-loop-tree l = AreTrees (take l.tree-index l.trees)
