-- How 1 to 64 bytes are kept in place.
use Rattle.std.specs.Prelude.{◌≡◌, ℕ, ◌-◌, ◌≤◌, List, length, take, ◌++◌, replicate}
use Rattle.std.proofs.Common.{sym, arith}
use Rattle.std.proofs.lemmas.List.{length-take-le}
use Rattle.ots_outside.specs.declared.small_bytes.SmallBytes.TheInside.{Inside}
use Rattle.ots_outside.specs.declared.small_bytes.TheConstants.{MAX_DIGEST}

-- So many bytes are kept, and zero bytes fill the room.
pub record IsKept (bytes : List ℕ) (n : ℕ) : Type 0 where
  pub least : 1 ≤ n
  pub greatest : n ≤ MAX_DIGEST
  pub room : length bytes ≡ MAX_DIGEST
  pub filled : bytes ≡ take n bytes ++ replicate (MAX_DIGEST - n) 0

-- How these bytes are kept.
abbrev pub kept_of : List ℕ → Inside
kept_of bytes = record { bytes = bytes ++ replicate (MAX_DIGEST - length bytes) 0; length = length bytes }

-- What is kept is determined by its bytes.
pub kept_again : (s : Inside) → IsKept s.bytes s.length → kept_of (take s.length s.bytes) ≡ s
kept_again s h =
    let len : length (take s.length s.bytes) ≡ s.length = length-take-le s.length s.bytes
    (omega (arith, h.greatest, h.room)) in
    let whole : take s.length s.bytes ++ replicate (MAX_DIGEST - length (take s.length s.bytes)) 0
    ≡ s.bytes = rw len (sym h.filled) in
    λ i. record { bytes = whole i; length = len i }
