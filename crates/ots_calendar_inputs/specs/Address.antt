-- A word that is one calendar address or none, as `otsd` takes it.
use Rattle.std.specs.Prelude.{◌≡◌, ℕ, Bool, List}
use Rattle.ots_address.specs.Address.{AddressParts}
use Rattle.ots_address.specs.OneAddress as one
use Rattle.ots_address.specs.declared.list.AddressError.{AddressError}
use Rattle.ots_address.specs.declared.list.AddressError.TheVariants as address
use Rattle.ots_inputs.specs.declared.error.InputError.{InputError}
use Rattle.ots_inputs.specs.declared.error.InputError.TheVariants.{NoFile, ReadFault, Refused, OutOfMemory}
use Rattle.ots_calendar_text.specs.declared.status.DaemonStatus.{DaemonStatus}
use Rattle.ots_calendar_text.specs.declared.status.DaemonStatus.TheVariants.{BadAddress}

-- The word is one address, whose text is the URI.
pub record IsOneAddress (word uri : List ℕ) : Type 0 where
  pub address : AddressParts
  pub is_address : one.IsOneAddress word address
  pub text : uri ≡ address.text

-- It is none, and the status tells where, and whether `https://` stands there.
pub record RefusesAddress (word : List ℕ) (s : DaemonStatus) : Type 0 where
  pub place : ℕ
  pub https : Bool
  pub none : one.IsNotOneAddress word place https
  pub status : s ≡ BadAddress place https

-- The word is no file: it is refused, or memory ran out.
abbrev pub MayRefuseAddress : List ℕ → InputError DaemonStatus → Type 0
MayRefuseAddress word NoFile = ⊥
MayRefuseAddress word ReadFault = ⊥
MayRefuseAddress word (Refused s) = RefusesAddress word s
MayRefuseAddress word OutOfMemory = Unit {0}

-- ---- for the code

abbrev pub refusal : AddressError → InputError DaemonStatus
refusal (address.BadAddress place https) = Refused (BadAddress place https)
refusal address.OutOfMemory = OutOfMemory
