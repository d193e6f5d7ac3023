-- What the code does to the paths of a part of a tree. It serves the code alone.
use Rattle.std.specs.Prelude.{◌≡◌, ℕ, ◌+◌, ◌<◌, ◌≤◌, List, [], ◌∷◌, ◌++◌, slice_index_or}
use Rattle.ots_ops.specs.declared.op.Op.{Op}
use Rattle.ots_ops.specs.declared.op.Op.TheVariants.{Sha256, Append, Prepend}
use Rattle.ots_merkle.specs.declared.branch.Side.{Side}
use Rattle.ots_merkle.specs.declared.branch.Side.TheVariants.{Left, Right}

-- The step to the node above, by the side on which the other part stands and that part's root.
abbrev pub step : Side → List ℕ → List Op
step Left other = Prepend other ∷ Sha256 ∷ []
step Right other = Append other ∷ Sha256 ∷ []

-- So many paths from a first one on are longer, each by the operations of its index among them, and the
-- others are as before.
pub record Extended (first count : ℕ) (more : ℕ → List Op) (old new : List (List Op)) : Type 0 where
  pub before : (k : ℕ) → k < first → slice_index_or new k [] ≡ slice_index_or old k []
  pub within : (j : ℕ) → j < count → slice_index_or new (first + j) [] ≡ slice_index_or old (first + j) [] ++ more j
  pub after : (k : ℕ) → first + count ≤ k → slice_index_or new k [] ≡ slice_index_or old k []
