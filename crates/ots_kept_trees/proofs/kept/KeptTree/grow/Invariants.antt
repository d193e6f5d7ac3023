use Rattle.std.proofs.Common.{◌≡◌, ◌+◌, length}
use Rattle.std.specs.Prelude.{None}
use Rattle.ots_kept_trees.specs.Kept.{AreLeaves}
use Rattle.ots_kept_trees.proofs.kept.KeptTree.grow.Given as goal

abbrev pub invariant-loop-place : goal.invariant-loop-place
invariant-loop-place l = record {
  leaves : AreLeaves l.commitments l.self.first l.self.tree.leaves;
  unclosed : l.self.closing ≡ None;
  reached : l.self.first + length l.self.tree.leaves ≡ l.place;
}
