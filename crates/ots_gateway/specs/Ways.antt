-- The digests of a gateway's round, and the own path of each.
use Rattle.std.specs.Prelude.{◌≡◌, ◌≤◌, ◌<◌, ℕ, List, ◌++◌, length, map}
use Rattle.std.specs.List.{flat_map}
use Rattle.sha2.specs.Sha256.{sha256}
use Rattle.ots_ops.specs.declared.op.Op.{Op}
use Rattle.ots_ops.specs.Operation.{spell}
use Rattle.ots_stamp.specs.Ways.{way_from}
use Rattle.ots_gateway.specs.declared.waiting.Waiting.{Waiting}

-- the leaf of a digest: SHA-256 (FIPS 180-4) of it and then its nonce
abbrev pub leaf : Waiting → List ℕ
leaf w = sha256 (w.digest ++ w.nonce)

abbrev pub leaves : List Waiting → List (List ℕ)
leaves waiting = map leaf waiting

-- how many bytes operations are spelled in
abbrev pub spelled_size : List Op → ℕ
spelled_size ops = length (flat_map spell ops)

-- The bytes of the longest of the own paths over these leaves, with any nonces of 16 bytes.
pub record IsLongestWay (leaves : List (List ℕ)) (size : ℕ) : Type 0 where
  pub most : (i : ℕ) (nonce : List ℕ) → i < length leaves → length nonce ≡ 16
      → spelled_size (way_from leaves i nonce) ≤ size
  pub longest : (i : ℕ) × (i < length leaves) × ((nonce : List ℕ) → length nonce ≡ 16
      → spelled_size (way_from leaves i nonce) ≡ size)
