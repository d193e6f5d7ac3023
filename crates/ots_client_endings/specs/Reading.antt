-- What a command goes on with that reads names in order, and what reading them does to a shelf.
use Rattle.std.specs.Prelude.{◌≡◌, ◌⊎◌, ℕ, Bool, List, [], Option, None, Result, IfOk, IfErr}
use Rattle.ots_address.specs.Address.{AddressParts}
use Rattle.ots_address.specs.AddressList.{IsBadAddress, IsListOf}
use Rattle.ots_detached.specs.File.{IsFileOf}
use Rattle.ots_outside.specs.Shelf.{Names, ShelfFaults, ShelfTold}
use Rattle.ots_tree.specs.declared.detached.Detached.{Detached}
use Rattle.ots_client_endings.specs.Ending.{Ending, refused}
use Rattle.ots_client_endings.specs.InTurn.{StopsInTurn}
use Rattle.ots_client_inputs.specs.Inputs.{AreAccepted, Input, names_in}
use Rattle.ots_client_inputs.specs.Proof.{RefusesProof}
use Rattle.ots_client_text.specs.declared.status.Status.{Status}
use Rattle.ots_client_text.specs.declared.status.Status.TheVariants as status
use Rattle.ots_inputs.specs.declared.error.InputError.{InputError}
use Rattle.ots_inputs.specs.declared.error.InputError.TheVariants.{NoFile, ReadFault, Refused, OutOfMemory}
use Rattle.ots_inputs.specs.declared.error.Stop.{Stop}
use Rattle.ots_inputs.specs.Input.{RanOut}
use Rattle.ots_inputs.specs.Kept.{KeepsShelf}
use Rattle.ots_inputs.specs.Opened.{Opens, OpensPrefix, StopsAt}
use Rattle.ots_inputs.specs.Under.{HasUnder, IsUnder}

-- The command ends for a name that is not there, or whose input is refused.
pub data RefusesInput (told : Option Names) (name : List ℕ) (Refuses : List ℕ → Status → Type 0)
    (e : Ending) : Type 0 where
  no_file : IsUnder told name None → e ≡ refused name status.NoFile → RefusesInput told name Refuses e
  refuses : (s : Status) → HasUnder told name (λ bytes. Refuses bytes s) → e ≡ refused name s
      → RefusesInput told name Refuses e

-- The input under a name is read: the command goes on with what its bytes give; or it ends there.
pub data WithInput {A : Type 0} (told : Option Names) (name : List ℕ) (Gives : List ℕ → A → Type 0)
    (Refuses : List ℕ → Status → Type 0)
    (goes_on : A → Ending → Type 0) (e : Ending) : Type 0 where
  is_given : (x : A) → HasUnder told name (λ bytes. Gives bytes x) → goes_on x e
      → WithInput told name Gives Refuses goes_on e
  is_refused : RefusesInput told name Refuses e → WithInput told name Gives Refuses goes_on e

-- a proof file
abbrev pub WithProof : Option Names → List ℕ → (Detached → Ending → Type 0) → Ending → Type 0
WithProof told name = WithInput told name IsFileOf RefusesProof

-- A list of calendar addresses is read: the command goes on with them; or ends at the first that is none.
pub data WithList (list : List ℕ) (goes_on : List AddressParts → Ending → Type 0) (e : Ending) : Type 0 where
  is_list : (calendars : List AddressParts) → IsListOf list calendars → goes_on calendars e → WithList list goes_on e
  is_bad : (place : ℕ) (https : Bool) → IsBadAddress list place https → e ≡ refused [] (status.BadAddress place https)
      → WithList list goes_on e

-- ---- what is done to a shelf

-- Why reading stopped at a name: it is not there or refused, with that status; or the shelf counted a fault there; or
-- memory ran out.
abbrev pub StopsFor : (Ending → Type 0) → (List ℕ → Type 0) → List ℕ → InputError Status → Type 0
StopsFor answers stops_at name NoFile = answers (refused name status.NoFile)
StopsFor answers stops_at name ReadFault = stops_at name
StopsFor answers stops_at name (Refused s) = answers (refused name s)
StopsFor answers stops_at name OutOfMemory = Unit {0}

-- Reading was broken off: the shelf counted a fault there, or memory ran out.
abbrev pub BreaksOff : InputError Status → Type 0
BreaksOff e = (e ≡ ReadFault) ⊎ (e ≡ OutOfMemory)

-- Inputs were read in order. All of them, which gives this, and all are accepted; or reading stopped at one, and
-- `answers` says of which refusals that may be.
pub record Reads {A : Type 0} (inputs : List Input) (gives : Option Names → A → Type 0)
    (answers : Option Names → Ending → Type 0)
    (old new : ShelfTold) (before now : ShelfFaults) (r : Result A (Stop Status)) : Type 0 where
  pub given : IfOk r (gives old.names)
  pub stopped : IfErr r (λ stop. StopsFor (answers old.names)
      (StopsAt (names_in inputs) old.opened new.opened before now) stop.name.now stop.why)
  pub opened : IfOk r (λ x. Opens (names_in inputs) old.opened new.opened)
  pub prefix : OpensPrefix (names_in inputs) old.opened new.opened
  pub accepted : IfOk r (λ x. AreAccepted old.names inputs)
  pub in_turn : IfErr r (λ stop. StopsInTurn old.names inputs (BreaksOff stop.why) old.opened new.opened)
  pub kept : KeepsShelf (¬ RanOut r) old new before now
