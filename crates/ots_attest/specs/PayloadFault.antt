-- What is wrong with a payload of a known kind: the first line of its kind's table that fits.
use Rattle.std.specs.Prelude.{◌≡◌, ℕ, ◌+◌, List, [], ◌∷◌, length, take, drop, not, nat_lt, bytes_eq, Option, Some, None}
use Rattle.std.specs.Prelude.{if◌then◌else◌}
use Rattle.std.specs.List.{list_all}
use Rattle.ots_base.specs.Table.{line, first_line}
use Rattle.ots_base.specs.declared.limits.TheConstants.{MAX_URI}
use Rattle.ots_varint.specs.declared.reading.VaruintRead.{VaruintRead}
use Rattle.ots_varint.specs.declared.reading.VaruintRead.TheVariants.{Value, Short, NonMinimal, TooLarge}
use Rattle.ots_varint.specs.Reading.{reading}
use Rattle.ots_attest.specs.Kind.{pending_kind, bitcoin_kind, litecoin_kind}
use Rattle.ots_attest.specs.Uri.{is_uri_byte}
use Rattle.ots_attest.specs.declared.payload.PayloadError.{PayloadError}
use Rattle.ots_attest.specs.declared.payload.PayloadError.TheVariants.{BadUri, PayloadRest, PayloadShort}
use Rattle.ots_attest.specs.declared.payload.PayloadError.TheVariants.{PayloadVaruint}
use Rattle.ots_attest.specs.declared.attestation.Attestation.{Attestation}
use Rattle.ots_attest.specs.Attestation.{kind, payload, IsAttestation}

-- of a payload that begins with no number
abbrev pub number_fault : VaruintRead → Option PayloadError
number_fault (Value n used) = None
number_fault Short = Some PayloadShort
number_fault NonMinimal = Some PayloadVaruint
number_fault TooLarge = Some PayloadVaruint

-- of a URI's payload p that begins with this number, its length
abbrev pub uri_fault : VaruintRead → List ℕ → Option PayloadError
uri_fault (Value n used) p = first_line (
    line (nat_lt MAX_URI n) BadUri
    ∷ line (nat_lt (length p) (used + n)) PayloadShort
    ∷ line (not (list_all is_uri_byte (take n (drop used p)))) BadUri
    ∷ line (nat_lt (used + n) (length p)) PayloadRest
    ∷ [])
uri_fault r p = number_fault r

-- of a height's payload p that begins with this number, the height
abbrev pub height_fault : VaruintRead → List ℕ → Option PayloadError
height_fault (Value n used) p = first_line (line (nat_lt used (length p)) PayloadRest ∷ [])
height_fault r p = number_fault r

-- by the kind; a payload of an unknown kind has no fault
unfoldable pub payload_fault : List ℕ → List ℕ → Option PayloadError
payload_fault k p =
    if bytes_eq k pending_kind then uri_fault (reading p) p
    else if bytes_eq k bitcoin_kind then height_fault (reading p) p
    else if bytes_eq k litecoin_kind then height_fault (reading p) p
    else None

-- the attestation of this kind and payload
pub record IsOf (k p : List ℕ) (a : Attestation) : Type 0 where
  pub within_limits : IsAttestation a
  pub kind : kind a ≡ k
  pub payload : payload a ≡ p
