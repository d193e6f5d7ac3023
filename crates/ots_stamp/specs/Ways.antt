-- Leaves that stand under one root, and the way from each to it.
use Rattle.std.specs.Prelude.{◌≡◌, ◌≤◌, ◌<◌, ◌+◌, ◌^◌, ℕ, List, ◌∷◌, length}
use Rattle.ots_ops.specs.declared.op.Op.{Op}
use Rattle.ots_ops.specs.declared.op.Op.TheVariants.{Append, Sha256}
use Rattle.ots_merkle.specs.CalendarTree.{path, root}

-- The number of operations before a calendar's answer: those of the longest path, and two before it.
pub record IsDepth (leaves : List (List ℕ)) (depth : ℕ) : Type 0 where
  pub most : (i : ℕ) → i < length leaves → length (path leaves i) + 2 ≤ depth
  pub longest : (i : ℕ) × (i < length leaves) × (length (path leaves i) + 2 ≡ depth)

-- The operations from the digest of a leaf to the root: its nonce is put after it, that is hashed, and the leaf's path
-- follows.
abbrev pub way_from : List (List ℕ) → ℕ → List ℕ → List Op
way_from leaves i nonce = Append nonce ∷ Sha256 ∷ path leaves i

-- ---- for the code

-- what is kept of leaves: the leaves of a tree that has grown over them, its root, and how deep it is
pub record KeepsWays (leaves grown : List (List ℕ)) (top : List ℕ) (depth : ℕ) : Type 0 where
  pub least : 1 ≤ length leaves
  pub most : length leaves < 2 ^ 32
  pub grown_is : grown ≡ leaves
  pub top_is : top ≡ root leaves
  pub depth_is : IsDepth leaves depth
  pub shallow : depth ≤ 66
