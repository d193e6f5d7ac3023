-- The bytes of a digest that a request carries.
use Rattle.std.specs.Prelude.{ℕ, ◌≤◌, List, length}
use Rattle.ots_outside.specs.declared.small_bytes.TheConstants.{MAX_DIGEST}

-- 1 to 64 bytes
pub record IsSmall (bytes : List ℕ) : Type 0 where
  pub least : 1 ≤ length bytes
  pub greatest : length bytes ≤ MAX_DIGEST
