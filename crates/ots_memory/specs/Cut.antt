-- Reads that are cut into pieces.
use Rattle.std.specs.Prelude.{ℕ, min, max, List, [], ◌∷◌, length}

-- What is told of an input that is read in pieces.
pub record CutInputTold : Type 0 where
  -- the bytes that are left to read
  pub left : List ℕ
  -- the bytes that reads have given
  pub given : List ℕ
  -- the most bytes that each of the next reads gives, as long as there are such numbers
  pub pieces : List ℕ

-- The most bytes that the next read gives into a buffer with this room. A piece of no bytes counts as one of a byte.
abbrev pub most_next : List ℕ → ℕ → ℕ
most_next [] room = room
most_next (piece ∷ pieces) room = min (max piece 1) room

-- How many bytes a read that does not fail gives into a buffer with this room.
abbrev pub read_count : List ℕ → List ℕ → ℕ → ℕ
read_count left pieces room = min (length left) (most_next pieces room)
