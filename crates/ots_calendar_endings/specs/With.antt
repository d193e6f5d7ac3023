-- How a run goes on from what it opens and reads.
use Rattle.std.specs.Prelude.{◌≡◌, ℕ, List, [], Option, None}
use Rattle.ots_outside.specs.Shelf.{Names}
use Rattle.ots_inputs.specs.Under.{HasUnder, IsUnder}
use Rattle.ots_journal.specs.declared.entry.Entry.{Entry}
use Rattle.ots_opening.specs.declared.errors.OpenError.{OpenError}
use Rattle.ots_opening.specs.Opening.{HasGate, HasRecords, RefusesStore}
use Rattle.ots_calendar_text.specs.declared.status.DaemonStatus.{DaemonStatus}
use Rattle.ots_calendar_text.specs.declared.status.DaemonStatus.TheVariants.{NoFile}
use Rattle.ots_calendar_inputs.specs.Address.{IsOneAddress, RefusesAddress}
use Rattle.ots_calendar_endings.specs.Found.{HasBook, RefusesBook, open_status}
use Rattle.ots_calendar_endings.specs.RunEnd.{RunEnd, refused}

-- The journal is opened, as what is asked of its entries: it is refused, or the command goes on with them and the place
-- of its closed gate.
pub data WithJournal (Has : Option (List ℕ) → List Entry → Type 0) (Refuses : Option (List ℕ) → OpenError → Type 0)
    (told : Option (List ℕ))
    (goes_on : ℕ → List Entry → RunEnd → Type 0) (e : RunEnd) : Type 0 where
  is_opened : (gate : ℕ) (entries : List Entry) → Has told entries → HasGate told gate → goes_on gate entries e
      → WithJournal Has Refuses told goes_on e
  is_refused : (why : OpenError) → Refuses told why → e ≡ refused [] (open_status why)
      → WithJournal Has Refuses told goes_on e

-- as a book
abbrev pub WithBook : Option (List ℕ) → (ℕ → List Entry → RunEnd → Type 0) → RunEnd → Type 0
WithBook = WithJournal HasBook RefusesBook

-- as records whose values are not looked at
abbrev pub WithStore : Option (List ℕ) → (ℕ → List Entry → RunEnd → Type 0) → RunEnd → Type 0
WithStore = WithJournal HasRecords RefusesStore

-- The bytes under a name give something, and the command goes on with it; or there is no such name, or they are
-- refused.
pub data WithInput {A : Type 0} (names : Option Names) (name : List ℕ) (Gives : List ℕ → A → Type 0)
    (Refuses : List ℕ → DaemonStatus → Type 0)
    (goes_on : A → RunEnd → Type 0) (e : RunEnd) : Type 0 where
  is_given : (x : A) → HasUnder names name (λ bytes. Gives bytes x) → goes_on x e
      → WithInput names name Gives Refuses goes_on e
  no_file : IsUnder names name None → e ≡ refused name NoFile → WithInput names name Gives Refuses goes_on e
  refuses : (s : DaemonStatus) → HasUnder names name (λ bytes. Refuses bytes s) → e ≡ refused name s
      → WithInput names name Gives Refuses goes_on e

-- The word is one address, and the command goes on with its URI; or it is refused.
pub data WithUri (word : List ℕ) (goes_on : List ℕ → RunEnd → Type 0) (e : RunEnd) : Type 0 where
  is_uri : (uri : List ℕ) → IsOneAddress word uri → goes_on uri e → WithUri word goes_on e
  no_uri : (s : DaemonStatus) → RefusesAddress word s → e ≡ refused [] s → WithUri word goes_on e
