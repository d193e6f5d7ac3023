-- A place among others. It serves the code alone.
use Rattle.std.specs.Prelude.{◌≡◌, ◌<◌, ℕ, List, length, slice_get, Some}

pub record IsPlace {A : Type 0} (P : A → Type 0) (xs : List A) (i : ℕ) : Type 0 where
  pub inside : i < length xs
  pub is : (x : A) → slice_get xs i ≡ Some x → P x
