-- Memory that a disk in memory reserves when it is made.
use Rattle.std.specs.Prelude.{◌≡◌, ◌≤◌, ℕ, List, [], Vec, vec_capacity}
use Rattle.std.specs.declared.alloc.Global.{Global}

pub record ContentsTold : Type 0 where
  pub bytes : List ℕ
  -- how many bytes they can reach to
  pub room : ℕ

pub record SpareTold : Type 0 where
  -- how many pieces are left
  pub left : ℕ
  -- how many bytes each can have
  pub room : ℕ

-- A piece that is not in use yet, with its memory.
pub record IsSparePiece (room : ℕ) (piece : Vec ℕ Global) : Type 0 where
  pub empty : piece.items ≡ []
  pub reserved : room ≤ vec_capacity piece
