-- What the payload of an unknown kind is (python-opentimestamps, opentimestamps/core/notary.py,
-- MAX_PAYLOAD_SIZE).
use Rattle.std.specs.Prelude.{ℕ, ◌<◌, ◌≤◌, List, length}
use Rattle.std.specs.List.{AllByRecursion}
use Rattle.ots_base.specs.declared.limits.TheConstants.{MAX_PAYLOAD}

-- 0 to MAX_PAYLOAD bytes, 8192
pub record IsPayload (bytes : List ℕ) : Type 0 where
  pub greatest : length bytes ≤ MAX_PAYLOAD
  pub are_bytes : AllByRecursion (λ b. b < 256) bytes
