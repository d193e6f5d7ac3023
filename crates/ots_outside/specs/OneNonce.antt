-- What one nonce tells.
use Rattle.std.specs.Prelude.{ℕ, List, [], Option, Some, None}

pub record OneNonceTold : Type 0 where
  -- the nonce to come, or none
  pub nonce : Option (List ℕ)
  pub faults : ℕ

-- The bytes to come.
abbrev pub bytes_of : Option (List ℕ) → List ℕ
bytes_of None = []
bytes_of (Some nonce) = nonce
