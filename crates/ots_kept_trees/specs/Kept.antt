-- The trees that a calendar keeps over its commitments, by which it answers.
use Rattle.std.specs.Prelude.{◌≡◌, ℕ, ◌+◌, ◌*◌, ◌/◌, ◌≤◌, List, length, take, drop, IfSome}
use Rattle.std.specs.List.{All}
use Rattle.ots_anchor.specs.Path.{hashed}
use Rattle.ots_growing_tree.specs.declared.growing.TheConstants.{RUN}
use Rattle.ots_merkle.specs.CalendarTree.{root_if_any}
use Rattle.ots_kept_trees.specs.declared.kept.Closing.{Closing}
use Rattle.ots_kept_trees.specs.declared.kept.KeptTree.{KeptTree}
use Rattle.ots_kept_trees.specs.declared.trees.Trees.{Trees}

-- `count` of the commitments, from index `first` on
abbrev pub span : ℕ → ℕ → List (List ℕ) → List (List ℕ)
span first count commits = take count (drop first commits)

-- These are the leaves of some of these commitments, from one index on.
pub record AreLeaves (commits : List (List ℕ)) (first : ℕ) (hashes : List (List ℕ)) : Type 0 where
  pub within : first + length hashes ≤ length commits
  pub leaves : hashes ≡ hashed (span first (length hashes) commits)

-- What closes the tree over the first of these leaves.
pub record Closes (hashes : List (List ℕ)) (closing : Closing) : Type 0 where
  pub few : closing.count ≤ length hashes
  pub root : closing.root ≡ root_if_any (drop (RUN * (closing.count / RUN)) (take closing.count hashes))

-- A tree is over some of these commitments, and it is known what closes it.
pub record IsKept (commits : List (List ℕ)) (t : KeptTree) : Type 0 where
  pub leaves : AreLeaves commits t.first t.tree.leaves
  pub closing : IfSome t.closing (Closes t.tree.leaves)

-- Each of them is.
pub record AreKept (commits : List (List ℕ)) (trees : Trees) : Type 0 where
  pub anchored : All (IsKept commits) trees.anchored.items
  pub newest : IfSome trees.newest (IsKept commits)
