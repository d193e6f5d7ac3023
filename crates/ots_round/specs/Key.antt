-- A calendar's key.
use Rattle.std.specs.Prelude.{ℕ, ◌≤◌, List, length}

-- 1 to 64 bytes
pub record IsKey (bytes : List ℕ) : Type 0 where
  pub least : 1 ≤ length bytes
  pub greatest : length bytes ≤ 64
