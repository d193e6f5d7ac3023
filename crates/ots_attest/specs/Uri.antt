-- What the URI of a pending attestation is. Source: python-opentimestamps,
-- opentimestamps/core/notary.py, PendingAttestation.
use Rattle.std.specs.Prelude.{ℕ, ◌≤◌, List, length, Bool, ◌||◌, ◌&&◌, nat_le, nat_eq, IsTrue}
use Rattle.std.specs.List.{AllByRecursion}
use Rattle.ots_base.specs.declared.limits.TheConstants.{MAX_URI}

-- A-Z, a-z, 0-9, and - . _ / :
abbrev pub is_uri_byte : ℕ → Bool
is_uri_byte b =
    (nat_le 0x41 b && nat_le b 0x5a) || (nat_le 0x61 b && nat_le b 0x7a) || (nat_le 0x30 b && nat_le b 0x39)
    || nat_eq b 0x2d || nat_eq b 0x2e || nat_eq b 0x5f || nat_eq b 0x2f || nat_eq b 0x3a

-- 0 to MAX_URI bytes, 1000, each of them allowed
pub record IsUri (bytes : List ℕ) : Type 0 where
  pub greatest : length bytes ≤ MAX_URI
  pub each : AllByRecursion (λ b. IsTrue (is_uri_byte b)) bytes
