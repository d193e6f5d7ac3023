-- Bytes that grow within room that was reserved.
use Rattle.std.specs.Prelude.{ℕ, ◌+◌, Bool, List, length, nat_lt}

-- What is told of an output with a capacity.
pub record OutputTold : Type 0 where
  -- the bytes taken
  pub taken : List ℕ
  -- how many bytes it takes at most in all
  pub capacity : ℕ

-- Whether this piece passes the capacity.
abbrev pub is_past : List ℕ → ℕ → List ℕ → Bool
is_past taken capacity piece = nat_lt capacity (length taken + length piece)
