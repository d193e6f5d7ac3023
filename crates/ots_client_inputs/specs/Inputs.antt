-- What a command reads in order, and what of it is accepted.
use Rattle.std.specs.Prelude.{◌≤◌, ℕ, List, [], ◌∷◌, length, Option, None}
use Rattle.std.specs.List.{AllByRecursion, flat_map}
use Rattle.ots_address.specs.Address.{AddressParts}
use Rattle.ots_address.specs.AddressList.{IsListOf}
use Rattle.ots_base.specs.declared.limits.TheConstants.{MAX_TARGET_FILE}
use Rattle.ots_chain.specs.Pins.{ArePins}
use Rattle.ots_chain.specs.declared.pins.Pin.{Pin}
use Rattle.ots_client_inputs.specs.Headers.{RefusesTable}
use Rattle.ots_client_inputs.specs.List.{RefusesList}
use Rattle.ots_client_inputs.specs.Pins.{RefusesPins}
use Rattle.ots_client_inputs.specs.Proof.{RefusesProof}
use Rattle.ots_client_inputs.specs.Target.{RefusesTarget}
use Rattle.ots_client_text.specs.declared.status.Status.{Status}
use Rattle.ots_client_words.specs.Words.{HeaderFile}
use Rattle.ots_detached.specs.File.{IsFileOf}
use Rattle.ots_headers.specs.HeaderTable.{Table}
use Rattle.ots_headers.specs.TableRead.{IsTableOf}
use Rattle.ots_inputs.specs.Under.{HasUnder, IsUnder}
use Rattle.ots_outside.specs.Shelf.{Names}
use Rattle.ots_tree.specs.declared.detached.Detached.{Detached}

-- A list of calendars, which is no file; or a file: a proof, headers, pins, or one that is hashed.
pub data Input : Type 0 where
  calendars_of : (list : List ℕ) → Input
  proof_under : (name : List ℕ) → Input
  headers_under : (file : HeaderFile) → Input
  pins_under : (name : List ℕ) → Input
  target_under : (name : List ℕ) → Input

-- the name that is opened for it, if any
abbrev pub name_in : Input → List (List ℕ)
name_in (calendars_of list) = []
name_in (proof_under name) = name ∷ []
name_in (headers_under file) = file.name ∷ []
name_in (pins_under name) = name ∷ []
name_in (target_under name) = name ∷ []

-- the names that are opened for these, in order
abbrev pub names_in : List Input → List (List ℕ)
names_in inputs = flat_map name_in inputs

-- It is there, and is what is asked for.
abbrev pub IsAccepted : Option Names → Input → Type 0
IsAccepted told (calendars_of list) = (calendars : List AddressParts) × IsListOf list calendars
IsAccepted told (proof_under name) = HasUnder told name (λ bytes. (proof : Detached) × IsFileOf bytes proof)
IsAccepted told (headers_under file) = HasUnder told file.name (λ bytes. (table : Table)
    × IsTableOf file.first bytes table)
IsAccepted told (pins_under name) = HasUnder told name (λ bytes. (pins : List Pin) × ArePins bytes pins)
IsAccepted told (target_under name) = HasUnder told name (λ bytes. length bytes ≤ MAX_TARGET_FILE)

-- It is not there.
abbrev pub IsAbsent : Option Names → Input → Type 0
IsAbsent told (calendars_of list) = ⊥
IsAbsent told (proof_under name) = IsUnder told name None
IsAbsent told (headers_under file) = IsUnder told file.name None
IsAbsent told (pins_under name) = IsUnder told name None
IsAbsent told (target_under name) = IsUnder told name None

-- It is there, and is refused, with some status.
abbrev pub IsRefused : Option Names → Input → Type 0
IsRefused told (calendars_of list) = (s : Status) × RefusesList list s
IsRefused told (proof_under name) = HasUnder told name (λ bytes. (s : Status) × RefusesProof bytes s)
IsRefused told (headers_under file) = HasUnder told file.name (λ bytes. (s : Status) × RefusesTable bytes s)
IsRefused told (pins_under name) = HasUnder told name (λ bytes. (s : Status) × RefusesPins bytes s)
IsRefused told (target_under name) = HasUnder told name (λ bytes. (s : Status) × RefusesTarget bytes s)

abbrev pub AreAccepted : Option Names → List Input → Type 0
AreAccepted told inputs = AllByRecursion (IsAccepted told) inputs
