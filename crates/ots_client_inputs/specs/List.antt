-- A list that gives calendars or none.
use Rattle.std.specs.Prelude.{◌≡◌, ℕ, Bool, List, []}
use Rattle.ots_address.specs.AddressList.{IsBadAddress}
use Rattle.ots_address.specs.declared.list.AddressError.{AddressError}
use Rattle.ots_address.specs.declared.list.AddressError.TheVariants as address
use Rattle.ots_inputs.specs.declared.error.InputError.{InputError}
use Rattle.ots_inputs.specs.declared.error.InputError.TheVariants.{NoFile, ReadFault, Refused, OutOfMemory}
use Rattle.ots_inputs.specs.declared.error.Stop.{Stop}
use Rattle.ots_client_text.specs.declared.status.Status.{Status}
use Rattle.ots_client_text.specs.declared.status.Status.TheVariants.{BadAddress}

-- Its first piece that is no address is told.
pub data RefusesList (list : List ℕ) (s : Status) : Type 0 where
  bad : (place : ℕ) (https : Bool) → IsBadAddress list place https → s ≡ BadAddress place https → RefusesList list s

-- The list is no file: it is refused, or memory ran out.
abbrev pub MayRefuseList : List ℕ → InputError Status → Type 0
MayRefuseList list NoFile = ⊥
MayRefuseList list ReadFault = ⊥
MayRefuseList list (Refused s) = RefusesList list s
MayRefuseList list OutOfMemory = Unit {0}

-- It gave no calendars, and no name is told.
pub record StopsAtList (list : List ℕ) (stop : Stop Status) : Type 0 where
  pub name : stop.name.now ≡ []
  pub why : MayRefuseList list stop.why

-- ---- for the code

-- why a list gives no calendars
abbrev pub refused_list : AddressError → InputError Status
refused_list (address.BadAddress place https) = Refused (BadAddress place https)
refused_list address.OutOfMemory = OutOfMemory
