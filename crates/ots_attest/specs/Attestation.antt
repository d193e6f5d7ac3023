-- The attestations: how one is spelled and ordered. Source: python-opentimestamps,
-- opentimestamps/core/notary.py.
use Rattle.std.specs.Prelude.{◌≡◌, ℕ, ◌<◌, ◌^◌, List, [], ◌∷◌, ◌++◌, length}
use Rattle.std.specs.List.{AllByRecursion}
use Rattle.std.specs.Ordering.{nat_cmp}
use Rattle.std.specs.declared.cmp.Ordering.{Ordering}
use Rattle.std.specs.Cmp.Lexicographic.{slice_cmp}
use Rattle.ots_varint.specs.Varuint.{varuint, varbytes}
use Rattle.ots_attest.specs.Kind.{pending_kind, bitcoin_kind, litecoin_kind}
use Rattle.ots_attest.specs.Uri.{IsUri}
use Rattle.ots_attest.specs.Payload.{IsPayload}
use Rattle.ots_attest.specs.declared.attestation.Attestation.{Attestation}
use Rattle.ots_attest.specs.declared.attestation.Attestation.TheVariants.{Pending, Bitcoin, Litecoin, Unknown}

-- An attestation is within its limits.
abbrev pub IsAttestation : Attestation → Type 0
IsAttestation (Pending uri) = IsUri uri
IsAttestation (Bitcoin height) = height < 2 ^ 64
IsAttestation (Litecoin height) = height < 2 ^ 64
IsAttestation (Unknown other) = (length other.kind ≡ 8) × AllByRecursion (λ b. b < 256) other.kind
    × IsPayload other.payload

-- the eight bytes that name the kind
abbrev pub kind : Attestation → List ℕ
kind (Pending uri) = pending_kind
kind (Bitcoin height) = bitcoin_kind
kind (Litecoin height) = litecoin_kind
kind (Unknown other) = other.kind

abbrev pub payload : Attestation → List ℕ
payload (Pending uri) = varbytes uri
payload (Bitcoin height) = varuint height
payload (Litecoin height) = varuint height
payload (Unknown other) = other.payload

-- the tag, the kind, and the payload after its length
abbrev pub spell : Attestation → List ℕ
spell a = 0x00 ∷ kind a ++ varbytes (payload a)

-- what those of one kind are ordered by: bytes, or one number
abbrev pub held : Attestation → List ℕ
held (Pending uri) = uri
held (Bitcoin height) = height ∷ []
held (Litecoin height) = height ∷ []
held (Unknown other) = other.payload

-- Attestations compare as these lists do, the first difference deciding, a proper prefix being less:
-- kinds, which have eight bytes each, and then what they hold.
abbrev pub key : Attestation → List ℕ
key a = kind a ++ held a

abbrev pub attestation_cmp : Attestation → Attestation → Ordering
attestation_cmp a b = slice_cmp nat_cmp (key a) (key b)
