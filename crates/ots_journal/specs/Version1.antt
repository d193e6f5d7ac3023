-- Which entries the bytes of a journal, version 1, stand for, and what is refused of them.
use Rattle.std.specs.Prelude.{◌≡◌, ◌≢◌, ◌⊎◌, ◌<◌, ◌≤◌, ℕ, List, [], ◌∷◌, ◌++◌, length, take}
use Rattle.std.specs.List.{flat_map, AllByRecursion}
use Rattle.ots_journal.specs.Image.{open_gate, entry_bytes, FitsEntry}
use Rattle.ots_journal.specs.Opening.{magic1}
use Rattle.ots_journal.specs.declared.entry.Entry.{Entry}
use Rattle.ots_journal.specs.declared.errors.OldError.{OldError}
use Rattle.ots_journal.specs.declared.errors.OldError.TheVariants.{NotAJournal, Damaged, OutOfMemory}
use Rattle.ots_journal.specs.declared.limits.TheConstants.{EMPTY_JOURNAL}

-- Each entry lies after an open gate of its own.
abbrev pub gated_entry : Entry → List ℕ
gated_entry entry = open_gate ∷ entry_bytes entry

-- The magic and whole entries.
abbrev pub prefix1 : List Entry → List ℕ
prefix1 entries = magic1 ++ flat_map gated_entry entries

-- The bytes begin with the magic and these entries, and have this gate and this rest after them.
pub record Begins1 (entries : List Entry) (gate : ℕ) (rest bytes : List ℕ) : Type 0 where
  pub whole : bytes ≡ prefix1 entries ++ gate ∷ rest
  pub fit : AllByRecursion FitsEntry entries

-- A file of at most EMPTY_JOURNAL bytes stands for no entries. A longer one stands for those up to the first closed
-- gate, whatever lies after that.
pub record StandsLong1 (bytes : List ℕ) (entries : List Entry) : Type 0 where
  pub long : EMPTY_JOURNAL < length bytes
  pub gate : ℕ
  pub rest : List ℕ
  pub begins : Begins1 entries gate rest bytes
  pub closed : gate ≢ open_gate

abbrev pub Stands1 : List ℕ → List Entry → Type 0
Stands1 bytes entries = ((length bytes ≤ EMPTY_JOURNAL) × (entries ≡ [])) ⊎ StandsLong1 bytes entries

-- An entry lies at the start of these bytes, with one more byte after it.
pub record HasEntry (bytes : List ℕ) : Type 0 where
  pub entry : Entry
  pub fits : FitsEntry entry
  pub next : ℕ
  pub after : List ℕ
  pub whole : bytes ≡ entry_bytes entry ++ next ∷ after

-- After whole entries stands an open gate at this place, and no entry after it.
pub record IsDamaged1 (bytes : List ℕ) (place : ℕ) : Type 0 where
  pub long : EMPTY_JOURNAL < length bytes
  pub entries : List Entry
  pub rest : List ℕ
  pub begins : Begins1 entries open_gate rest bytes
  pub at : place ≡ length (prefix1 entries)
  pub broken : HasEntry rest → ⊥

-- What the bytes are, where they are answered so.
abbrev pub Refuses1 : List ℕ → OldError → Type 0
Refuses1 bytes NotAJournal = (EMPTY_JOURNAL < length bytes) × (take 8 bytes ≢ magic1)
Refuses1 bytes (Damaged place) = IsDamaged1 bytes place
Refuses1 bytes OutOfMemory = Unit {0}

-- what is read of the entries so far
pub record ReadTo1 (bytes : List ℕ) (entries : List Entry) (place : ℕ) : Type 0 where
  pub gate : ℕ
  pub rest : List ℕ
  pub begins : Begins1 entries gate rest bytes
  pub at : place ≡ length (prefix1 entries)

-- an entry was read, of this many bytes
pub record AddsEntry (bytes : List ℕ) (old new : List Entry) (size : ℕ) : Type 0 where
  pub there : HasEntry bytes
  pub size_is : size ≡ length (entry_bytes there.entry)
  pub added : new ≡ old ++ there.entry ∷ []
