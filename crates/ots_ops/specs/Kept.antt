-- How a digest keeps its bytes.
use Rattle.std.specs.Prelude.{◌≡◌, ℕ, List, length, nat_eq, refl, if◌then◌else◌}
use Rattle.ots_ops.specs.declared.digest.Kept.{Kept}
use Rattle.ots_ops.specs.declared.digest.Kept.TheVariants.{Twenty, ThirtyTwo}
use Rattle.ots_ops.specs.declared.digest.Digest.TheInside.{Inside}

-- The bytes that are kept.
abbrev pub bytes_of : Kept → List ℕ
bytes_of (Twenty bytes) = bytes
bytes_of (ThirtyTwo bytes) = bytes

-- They are as many as the name says.
abbrev pub HasLength : Kept → Type 0
HasLength (Twenty bytes) = length bytes ≡ 20
HasLength (ThirtyTwo bytes) = length bytes ≡ 32

-- How these bytes are kept.
abbrev pub kept_of : List ℕ → Kept
kept_of bytes = if nat_eq (length bytes) 20 then Twenty bytes else ThirtyTwo bytes

again : (kept : Kept) → HasLength kept → kept_of (bytes_of kept) ≡ kept
again (Twenty bytes) h = rw h refl
again (ThirtyTwo bytes) h = rw h refl

-- What is kept is determined by its bytes.
pub kept_again : (d : Inside) → HasLength d.kept → (let i : Inside = record { kept = kept_of (bytes_of d.kept) } in i)
    ≡ d
kept_again d h = let e = again d.kept h in λ i. record { kept = e i }
