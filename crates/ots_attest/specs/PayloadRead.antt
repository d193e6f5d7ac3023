-- What reading a payload answers.
use Rattle.std.specs.Prelude.{◌≡◌, ℕ, ◌<◌, ◌^◌, List, Option, Some, Result, Ok, Err}
use Rattle.ots_varint.specs.declared.reading.VaruintRead.{VaruintRead}
use Rattle.ots_varint.specs.Varuint.{varuint, varbytes}
use Rattle.ots_attest.specs.Uri.{IsUri}
use Rattle.ots_attest.specs.declared.uri_ref.UriRef.{UriRef}
use Rattle.ots_attest.specs.declared.payload.PayloadError.{PayloadError}
use Rattle.ots_attest.specs.declared.payload.PayloadError.TheVariants.{OutOfMemory}
use Rattle.ots_attest.specs.PayloadFault.{uri_fault, height_fault}

-- The error is the fault that is known, unless memory ran out.
abbrev pub IsFault : Option PayloadError → PayloadError → Type 0
IsFault known e = (e ≡ OutOfMemory → ⊥) → known ≡ Some e

-- the URI of a payload p that begins with the number r, or what is wrong
abbrev pub UriGives : List ℕ → VaruintRead → Result UriRef PayloadError → Type 0
UriGives p r (Ok uri) = IsUri uri.text.now × (varbytes uri.text.now ≡ p)
UriGives p r (Err e) = uri_fault r p ≡ Some e

-- the height of such a payload, or what is wrong
abbrev pub HeightGives : List ℕ → VaruintRead → Result ℕ PayloadError → Type 0
HeightGives p r (Ok height) = (height < 2 ^ 64) × (varuint height ≡ p)
HeightGives p r (Err e) = height_fault r p ≡ Some e
