-- Rows of bytes.
use Rattle.std.specs.Prelude.{◌≡◌, ℕ, ◌-◌, ◌<◌, List, [], length, Bool, true, false, slice_index_or}

-- the row of a message, which may be shared with the row before
abbrev pub row_of : Bool → ℕ → ℕ
row_of true row = row - 1
row_of false row = row

-- These bytes were put into a row, and the rows before it are as they were.
pub record IsPut (old new : List (List ℕ)) (row : ℕ) (bytes : List ℕ) : Type 0 where
  pub count : length new ≡ length old
  pub put : slice_index_or new row [] ≡ bytes
  pub before : (k : ℕ) → k < row → slice_index_or new k [] ≡ slice_index_or old k []
