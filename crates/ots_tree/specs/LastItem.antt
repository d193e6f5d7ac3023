-- Where the last item of a root begins. It serves the function that looks for it; what is made of
-- two trees is said by IsBeside.
use Rattle.std.specs.Prelude.{◌≡◌, ◌≢◌, ℕ, ◌<◌, List, length, slice_index}

-- the last of some numbers that is 0
pub record IsLastZero (depths : List ℕ) (place : ℕ) : Type 0 where
  pub in_range : place < length depths
  pub is_zero : slice_index depths place ≡ 0
  pub later : (k : ℕ) → place < k → k < length depths → slice_index depths k ≢ 0
