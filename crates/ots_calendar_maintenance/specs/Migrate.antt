-- The command `migrate`.
use Rattle.std.specs.Prelude.{◌≡◌, ◌<◌, ◌≤◌, ℕ, ◌+◌, ◌*◌, List, [], ◌∷◌, ◌++◌, length, take, drop, slice_get, Option}
use Rattle.ots_journal.specs.declared.entry.Entry.{Entry}
use Rattle.ots_journal.specs.declared.limits.TheConstants.{MAX_GROUP}
use Rattle.ots_journal.specs.Image.{entries_bytes}
use Rattle.ots_journal.specs.Journal.{size_with}
use Rattle.ots_store.specs.Order.{FirstBad}
use Rattle.ots_store.specs.Store.{InRecords}
use Rattle.ots_calendar_text.specs.Lines.{migrated_line}
use Rattle.ots_calendar_text.specs.declared.status.DaemonStatus.TheVariants.{BadRecord, Full, NotPrefix}
use Rattle.ots_calendar_endings.specs.RunEnd.{RunEnd, declined, done}
use Rattle.ots_journal.specs.declared.limits.TheConstants.{MAX_JOURNAL}
use Rattle.ots_inputs.specs.Under.{HasUnder}
use Rattle.ots_outside.specs.Shelf.{Names}
use Rattle.ots_calendar_inputs.specs.Old.{GivesOld, RefusesOld}
use Rattle.ots_calendar_endings.specs.Ran.{Meaning}
use Rattle.ots_calendar_endings.specs.Told.{Told}
use Rattle.ots_calendar_endings.specs.With.{WithInput, WithStore}

-- The journal has an entry that the old one lacks or has otherwise, and this is the least index of such.
pub record FirstOther (entries old : List Entry) (i : ℕ) : Type 0 where
  pub there : i < length entries
  pub same : take i entries ≡ take i old
  pub other : slice_get entries i ≡ slice_get old i → ⊥

-- Groups of 1024 entries, and one of the rest. This is the one with this number, counted from 0.
abbrev pub group_at : List Entry → ℕ → List Entry
group_at rest k = take MAX_GROUP (drop (MAX_GROUP * k) rest)

-- The place of the closed gate after k groups, where it was at this place: each has a gate, a head of six bytes,
-- and its entries.
abbrev pub gate_after : ℕ → List Entry → ℕ → ℕ
gate_after gate rest k = gate + 7 * k + length (entries_bytes (take (MAX_GROUP * k) rest))

-- how many bytes the file has with the group
abbrev pub size_at : ℕ → List Entry → ℕ → ℕ
size_at gate rest k = size_with (gate_after gate rest k) (group_at rest k)

-- the first `count` groups fit the limit
abbrev pub FitGroups : ℕ → ℕ → List Entry → ℕ → Type 0
FitGroups limit gate rest count = (k : ℕ) → k < count → MAX_GROUP * k < length rest → size_at gate rest k ≤ limit

-- Over a journal with this limit, whose closed gate is at this place, and the entries of the old one. First the entries
-- are compared, then the old ones are looked at, and then those that the journal lacks are added, group after group.
pub data MigrateAnswers (limit : ℕ) (old : List Entry) (gate : ℕ) (entries : List Entry) (e : RunEnd) : Type 0 where
  not_prefix : (i : ℕ) → FirstOther entries old i → e ≡ declined entries (NotPrefix i)
      → MigrateAnswers limit old gate entries e
  bad_record : (rest : List Entry) → old ≡ entries ++ rest → (i : ℕ) → FirstBad [] old i
      → e ≡ declined entries (BadRecord i) → MigrateAnswers limit old gate entries e
  carried : (rest : List Entry) → old ≡ entries ++ rest → InRecords old → FitGroups limit gate rest (length rest)
      → e ≡ done old (migrated_line (length old)) → MigrateAnswers limit old gate entries e
  full : (rest : List Entry) → old ≡ entries ++ rest → InRecords old → (k : ℕ) → MAX_GROUP * k < length rest
      → FitGroups limit gate rest k → limit < size_at gate rest k
      → e ≡ declined (entries ++ take (MAX_GROUP * k) rest) (Full (size_at gate rest k) limit)
      → MigrateAnswers limit old gate entries e

-- What it may add: entries of the old journal, from the first that the journal lacks on.
pub record AddsPrefix (old entries added : List Entry) : Type 0 where
  pub later : List Entry
  pub whole : old ≡ (entries ++ added) ++ later

-- The journal of version 1 under its name is in order.
abbrev pub HasOld : Option Names → List ℕ → Type 0
HasOld names name = (entries : List Entry) × HasUnder names name (λ bytes. GivesOld bytes entries)

-- Entries of the old journal under its name.
pub record AddsOld (names : Option Names) (name : List ℕ) (entries added : List Entry) : Type 0 where
  pub old : List Entry
  pub has_old : HasUnder names name (λ bytes. GivesOld bytes old)
  pub adds : AddsPrefix old entries added

-- It reads the old journal, and then opens the new one, whose values are not looked at.
abbrev pub migrate_meaning : List ℕ → Told → Told → Meaning
migrate_meaning name old new = record {
  reads = name ∷ [];
  answers = WithInput old.shelf.names name GivesOld RefusesOld
      (λ entries. WithStore old.bytes (MigrateAnswers MAX_JOURNAL entries));
  adds = AddsOld old.shelf.names name;
  ready = HasOld old.shelf.names name;
  draws = ⊥;
  serves = ⊥;
}
