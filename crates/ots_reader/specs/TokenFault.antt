-- What is wrong with bytes at a token's place that begin with no token: by the tag, and then the first
-- line that fits. Source of the limits: python-opentimestamps, opentimestamps/core/op.py and notary.py.
use Rattle.std.specs.Prelude.{ℕ, ◌+◌, List, [], ◌∷◌, length, take, drop, Bool, not, ◌||◌, nat_lt, nat_eq, Option, Some}
use Rattle.std.specs.Prelude.{None, option_and_then, if◌then◌else◌}
use Rattle.std.specs.List.{list_any}
use Rattle.ots_base.specs.declared.limits.TheConstants.{MAX_ARGUMENT, MAX_PAYLOAD}
use Rattle.ots_base.specs.Table.{line, first_line}
use Rattle.ots_varint.specs.declared.reading.VaruintRead.{VaruintRead}
use Rattle.ots_varint.specs.declared.reading.VaruintRead.TheVariants as read
use Rattle.ots_varint.specs.Reading.{reading}
use Rattle.ots_ops.specs.declared.tags.TheConstants.{SHA1_TAG, RIPEMD160_TAG, SHA256_TAG, KECCAK256_TAG, APPEND_TAG}
use Rattle.ots_ops.specs.declared.tags.TheConstants.{PREPEND_TAG, REVERSE_TAG, HEXLIFY_TAG}
use Rattle.ots_attest.specs.declared.payload.PayloadError.{PayloadError}
use Rattle.ots_attest.specs.declared.payload.PayloadError.TheVariants as payload
use Rattle.ots_attest.specs.PayloadFault.{payload_fault}
use Rattle.ots_reader.specs.declared.fault.Reason.{Reason}
use Rattle.ots_reader.specs.declared.fault.Reason.TheVariants.{Truncated, UnknownOp, Keccak, NonMinimal}
use Rattle.ots_reader.specs.declared.fault.Reason.TheVariants.{VaruintTooLarge, ArgEmpty, ArgTooLong, PayloadTooLong}
use Rattle.ots_reader.specs.declared.fault.Reason.TheVariants.{BadUri, PayloadRest, PayloadShort, PayloadVaruint}

-- An attestation, the hashes SHA-1, RIPEMD-160 and SHA-256, append and prepend, reverse and hexlify,
-- and a fork.
abbrev pub tags : List ℕ
tags = 0x00 ∷ SHA1_TAG ∷ RIPEMD160_TAG ∷ SHA256_TAG ∷ APPEND_TAG ∷ PREPEND_TAG ∷ REVERSE_TAG ∷ HEXLIFY_TAG ∷ 0xff ∷ []

abbrev pub is_tag : ℕ → Bool
is_tag b = list_any (λ tag. nat_eq b tag) tags

-- append and prepend
abbrev pub has_argument : ℕ → Bool
has_argument tag = nat_eq tag APPEND_TAG || nat_eq tag PREPEND_TAG

abbrev pub is_attestation : ℕ → Bool
is_attestation tag = nat_eq tag 0x00

-- of a length that is no number
abbrev pub length_fault : VaruintRead → Option Reason
length_fault (read.Value n used) = None
length_fault read.Short = Some Truncated
length_fault read.NonMinimal = Some NonMinimal
length_fault read.TooLarge = Some VaruintTooLarge

-- of an argument after its length, where the bytes begin with this number
abbrev pub argument_fault : VaruintRead → List ℕ → Option Reason
argument_fault (read.Value n used) bytes = first_line (
    line (nat_eq n 0) ArgEmpty
    ∷ line (nat_lt MAX_ARGUMENT n) ArgTooLong
    ∷ line (nat_lt (length bytes) (used + n)) Truncated
    ∷ [])
argument_fault r bytes = length_fault r

-- a fault within a payload, of which none is want of memory
abbrev pub as_reason : PayloadError → Option Reason
as_reason payload.BadUri = Some BadUri
as_reason payload.PayloadRest = Some PayloadRest
as_reason payload.PayloadShort = Some PayloadShort
as_reason payload.PayloadVaruint = Some PayloadVaruint
as_reason payload.OutOfMemory = None

-- of a payload of this kind after its length, where the bytes begin with this number
abbrev pub body_fault : List ℕ → VaruintRead → List ℕ → Option Reason
body_fault kind (read.Value n used) bytes = first_line (
    line (nat_lt MAX_PAYLOAD n) PayloadTooLong
    ∷ line (nat_lt (length bytes) (used + n)) Truncated
    ∷ option_and_then as_reason (payload_fault kind (take n (drop used bytes)))
    ∷ [])
body_fault kind r bytes = length_fault r

-- of an attestation after its tag: eight bytes of kind, and its payload after its length
abbrev pub attestation_fault : List ℕ → Option Reason
attestation_fault after =
    if nat_lt (length after) 8 then Some Truncated
    else body_fault (take 8 after) (reading (drop 8 after)) (drop 8 after)

-- none where a token stands
unfoldable pub token_fault : List ℕ → Option Reason
token_fault [] = Some Truncated
token_fault (tag ∷ after) =
    if nat_eq tag KECCAK256_TAG then Some Keccak
    else if not (is_tag tag) then Some UnknownOp
    else if is_attestation tag then attestation_fault after
    else if has_argument tag then argument_fault (reading after) after
    else None
