-- What reading a name answers, by what its bytes give and how they are refused, and what it does to a shelf.
use Rattle.std.specs.Prelude.{◌≡◌, ℕ, List, [], ◌∷◌, Option, None, Result, Ok, Err, IsErrOf}
use Rattle.ots_outside.specs.Shelf.{Names, ShelfFaults, ShelfTold}
use Rattle.ots_outside.specs.declared.shelf.OpenError.{OpenError}
use Rattle.ots_outside.specs.declared.shelf.OpenError.TheVariants as opening
use Rattle.ots_inputs.specs.declared.error.InputError.{InputError}
use Rattle.ots_inputs.specs.declared.error.InputError.TheVariants.{NoFile, ReadFault, Refused, OutOfMemory}
use Rattle.ots_inputs.specs.declared.error.Stop.{Stop}
use Rattle.ots_inputs.specs.Kept.{KeepsShelf}
use Rattle.ots_inputs.specs.Opened.{IsOpenedOrNot, Opens}
use Rattle.ots_inputs.specs.Under.{HasUnder, IsUnder}

-- why a name gave nothing: it is not there, or its bytes are refused; of the rest nothing is said here
abbrev pub IsRefusal : {R : Type 0} → Option Names → List ℕ → (List ℕ → R → Type 0) → InputError R → Type 0
IsRefusal told name Refuses NoFile = IsUnder told name None
IsRefusal told name Refuses ReadFault = Unit {0}
IsRefusal told name Refuses (Refused r) = HasUnder told name (λ bytes. Refuses bytes r)
IsRefusal told name Refuses OutOfMemory = Unit {0}

-- What was read is what the name's bytes give; or each refusal is that of its bytes.
abbrev pub InputAnswer : {A R : Type 0} → Option Names → List ℕ → (List ℕ → A → Type 0) → (List ℕ → R → Type 0)
    → Result A (InputError R) → Type 0
InputAnswer told name Gives Refuses (Ok x) = HasUnder told name (λ bytes. Gives bytes x)
InputAnswer told name Gives Refuses (Err e) = IsRefusal told name Refuses e

-- The name was opened where its bytes were read; else it was or was not, and the shelf counted a fault where one is
-- told.
abbrev pub OpensInput : {A R : Type 0} → List ℕ → Option (List (List ℕ)) → Option (List (List ℕ)) → ShelfFaults
    → ShelfFaults → Result A (InputError R) → Type 0
OpensInput name old new before now (Ok x) = Opens (name ∷ []) old new
OpensInput name old new before now (Err e) = IsOpenedOrNot name old new before now (e ≡ ReadFault)

-- A name that is not there was not opened, and one whose bytes are refused was.
abbrev pub OpensRefused : {A R : Type 0} → List ℕ → Option (List (List ℕ)) → Option (List (List ℕ))
    → Result A (InputError R) → Type 0
OpensRefused name old new (Ok x) = Unit {0}
OpensRefused name old new (Err NoFile) = Opens [] old new
OpensRefused name old new (Err ReadFault) = Unit {0}
OpensRefused name old new (Err (Refused r)) = Opens (name ∷ []) old new
OpensRefused name old new (Err OutOfMemory) = Unit {0}

-- One name was read.
pub record ReadsInput {A R : Type 0} (Gives : List ℕ → A → Type 0) (Refuses : List ℕ → R → Type 0) (name : List ℕ)
    (old new : ShelfTold)
    (before now : ShelfFaults) (r : Result A (InputError R)) : Type 0 where
  pub answer : InputAnswer old.names name Gives Refuses r
  pub opened : OpensInput name old.opened new.opened before now r
  pub refused : OpensRefused name old.opened new.opened r
  pub kept : KeepsShelf (¬ IsErrOf r OutOfMemory) old new before now

-- The same, where the name is told with a refusal.
abbrev pub ReadsNamed : {A R : Type 0} → (List ℕ → A → Type 0) → (List ℕ → R → Type 0) → List ℕ → ShelfTold → ShelfTold
    → ShelfFaults → ShelfFaults
    → Result A (Stop R) → Type 0
ReadsNamed Gives Refuses name old new before now (Ok x) = ReadsInput Gives Refuses name old new before now (Ok x)
ReadsNamed {A} Gives Refuses name old new before now (Err stop) =
    (stop.name.now ≡ name) × ReadsInput {A = A} Gives Refuses name old new before now (Err stop.why)

-- Reading stopped because memory ran out.
abbrev pub RanOut : {A R : Type 0} → Result A (Stop R) → Type 0
RanOut (Ok x) = ⊥
RanOut (Err stop) = stop.why ≡ OutOfMemory

-- a name that was not opened
abbrev pub refused_open : {R : Type 0} → OpenError → InputError R
refused_open opening.NotThere = NoFile
refused_open opening.Failed = ReadFault
refused_open opening.OutOfMemory = OutOfMemory

-- the same of a name whose bytes mean something else
abbrev pub map_refusal : {R Q : Type 0} → (R → Q) → InputError R → InputError Q
map_refusal f NoFile = NoFile
map_refusal f ReadFault = ReadFault
map_refusal f (Refused r) = Refused (f r)
map_refusal f OutOfMemory = OutOfMemory
