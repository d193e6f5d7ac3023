-- How a command runs: what it may come to by the names that it reads, and what it does to a shelf and a sink.
use Rattle.std.specs.Prelude.{◌≡◌, ◌≢◌, ◌≤◌, ◌⊎◌, ℕ, List, Option}
use Rattle.ots_base.specs.Cause.{Rose}
use Rattle.ots_client_endings.specs.CarriedOut.{CarriesOut, Ends}
use Rattle.ots_client_endings.specs.Ending.{Ending, refused}
use Rattle.ots_client_endings.specs.InTurn.{OpensInTurn}
use Rattle.ots_client_inputs.specs.Inputs.{Input, names_in}
use Rattle.ots_client_text.specs.declared.status.Status.{Status}
use Rattle.ots_client_text.specs.declared.status.Status.TheVariants as status
use Rattle.ots_inputs.specs.declared.error.InputError.{InputError}
use Rattle.ots_inputs.specs.declared.error.InputError.TheVariants.{NoFile, ReadFault, Refused, OutOfMemory}
use Rattle.ots_inputs.specs.Opened.{OpensPrefix, StopsAt}
use Rattle.ots_outside.specs.Shelf.{Names, NeverFalls, OnlyWriting, ShelfFaults, ShelfTold}

-- what is told of a shelf and a sink at one moment
pub record Moment : Type 0 where
  pub shelf : ShelfTold
  -- how often the shelf's calls failed
  pub faults : ShelfFaults
  -- what the sink has taken
  pub taken : Option (List ℕ)
  -- how often the sink's calls failed
  pub lost : ℕ

abbrev pub at : {S K : Type 0} → (S → ShelfTold) → (S → ShelfFaults) → (K → Option (List ℕ)) → (K → ℕ) → S → K → Moment
at told faults taken lost shelf out = record {
  shelf = told shelf;
  faults = faults shelf;
  taken = taken out;
  lost = lost out;
}

-- It ends as it is defined; or a name could not be read, at which the shelf counted a fault, and that is told.
pub data Comes (answers : Ending → Type 0) (stops_at : List ℕ → Type 0) (e : Ending) : Type 0 where
  as_defined : answers e → Comes answers stops_at e
  not_read : (name : List ℕ) → stops_at name → e ≡ refused name status.ReadFault → Comes answers stops_at e

-- Reading was broken off: the shelf counted a fault of opening or of reading, or memory ran out.
abbrev pub IsBrokenOff : ShelfFaults → ShelfFaults → Status → Type 0
IsBrokenOff before now r = Rose before.opening now.opening ⊎ Rose before.reading now.reading
    ⊎ (r ≡ status.OutOfMemory)

-- A command ran that reads these inputs in order, and answers so over what the shelf told under their names. Where
-- memory ran out first, nothing was done. All that is told but this stays.
pub record Runs (answers : Option Names → Ending → Type 0) (inputs : List Input) (old new : Moment)
    (r : Status) : Type 0 where
  pub ends : Ends
      (Comes (answers old.shelf.names)
      (StopsAt (names_in inputs) old.shelf.opened new.shelf.opened old.faults new.faults))
      (Rose old.faults.writing new.faults.writing) (Rose old.lost new.lost) old.shelf.names new.shelf.names old.taken
      new.taken r
  pub opened : OpensPrefix (names_in inputs) old.shelf.opened new.shelf.opened
  -- each is opened only once all before it are accepted
  pub in_turn : OpensInTurn old.shelf.names inputs (IsBrokenOff old.faults new.faults r) old.shelf.opened
      new.shelf.opened
  pub short : r ≢ status.OutOfMemory → new.shelf.short ≡ old.shelf.short
  pub slots : (k : ℕ) → new.shelf.slots k ≡ old.shelf.slots k
  pub faults : NeverFalls old.faults new.faults
  pub lost : old.lost ≤ new.lost

-- ---- for the code

-- One of these endings was carried out, once all was read: nothing more was opened, and only writing can have failed.
pub record Finishes (P : Ending → Type 0) (old new : Moment) (r : Status) : Type 0 where
  pub ending : Ending
  pub is : P ending
  pub out : CarriesOut (Rose old.faults.writing new.faults.writing) (Rose old.lost new.lost) ending.status ending.acts
      old.shelf.names new.shelf.names old.taken new.taken r
  pub opened : new.shelf.opened ≡ old.shelf.opened
  pub slots : (k : ℕ) → new.shelf.slots k ≡ old.shelf.slots k
  pub short : r ≢ status.OutOfMemory → new.shelf.short ≡ old.shelf.short
  pub counts : OnlyWriting old.faults new.faults
  pub writing : old.faults.writing ≤ new.faults.writing
  pub lost : old.lost ≤ new.lost

-- A stop at a name was told: the refusal of that name; or memory ran out, and nothing was done.
abbrev pub TellsStop : List ℕ → InputError Status → Moment → Moment → Status → Type 0
TellsStop name NoFile old new r = Finishes (λ e. e ≡ refused name status.NoFile) old new r
TellsStop name ReadFault old new r = Finishes (λ e. e ≡ refused name status.ReadFault) old new r
TellsStop name (Refused s) old new r = Finishes (λ e. e ≡ refused name s) old new r
TellsStop name OutOfMemory old new r = (new ≡ old) × (r ≡ status.OutOfMemory)
