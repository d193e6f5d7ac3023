-- Operations that follow alike on several places. They serve the functions that merge nodes.
use Rattle.std.specs.Prelude.{◌≡◌, ℕ, ◌+◌, ◌<◌, ◌≤◌, List, length, map, slice_get, slice_index, All, true}
use Rattle.ots_tree.specs.declared.token.Token.{Token}
use Rattle.ots_canon.specs.Steps.{step_at}
use Rattle.ots_canon.specs.Tags.{is_op}

-- d places further on
abbrev pub shifted : ℕ → List ℕ → List ℕ
shifted d ks = map (λ k. k + d) ks

-- d operations follow after one place, no fork between, and alike after the other
pub record AreAlike (ts : List Token) (first k d : ℕ) : Type 0 where
  pub within : (first + d < length ts) × (k + d < length ts)
  pub ops : (j : ℕ) → j < d → (is_op (slice_get ts (first + j)) ≡ true) × (is_op (slice_get ts (first + j + 1)) ≡ true)
  pub same : (j : ℕ) → j ≤ d → step_at ts (k + j) ≡ step_at ts (first + j)

-- after all of these places
abbrev pub IsChain : List Token → List ℕ → ℕ → Type 0
IsChain ts ks d = All (λ k. AreAlike ts (slice_index ks 0) k d) ks
