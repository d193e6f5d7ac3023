-- What contracts see of a store.
use Rattle.std.specs.Prelude.{◌≡◌, ◌⊎◌, ◌<◌, ◌≤◌, ℕ, ◌/◌, min, true, false, List, [], ◌++◌, length, Option, Result, Ok}
use Rattle.std.specs.Prelude.{Err}
use Rattle.ots_disk.specs.Disk.{LeavesOnly}
use Rattle.ots_journal.specs.declared.entry.Entry.{Entry}
use Rattle.ots_journal.specs.declared.errors.AppendError.{AppendError}
use Rattle.ots_journal.specs.declared.errors.AppendError.TheVariants.{DiskFault, Full, OutOfMemory}
use Rattle.ots_journal.specs.Image.{Stands}
use Rattle.ots_journal.specs.Journal.{JournalTold, StandsForEither, StandsNow, Refreshed, Unrefreshed, Put, InFlight}
use Rattle.ots_journal.specs.Journal.{size_with}
use Rattle.ots_store.specs.Held.{HeldTold, Holds}
use Rattle.ots_store.specs.Order.{AreRecords, records_of}
use Rattle.ots_store.specs.Records.{Record}

pub record StoreTold (D : Type 0) : Type 0 where
  pub journal : JournalTold D
  -- the records that its acknowledged entries spell
  pub records : List Record
  -- how many commitments or tips can be added without taking memory
  pub spare : ℕ

-- Entries spell records, in order.
abbrev pub InRecords : List Entry → Type 0
InRecords entries = AreRecords [] entries

-- These bytes stand for records in order.
pub record StandsForRecords (bytes : List ℕ) : Type 0 where
  pub entries : List Entry
  pub stands : Stands bytes entries
  pub records : InRecords entries

-- What every store keeps: its entries spell records in order, and so do these with the group in flight. Every image of
-- the disk stands for one of the two.
pub record StoreStands {D : Type 0} (bytes : D → Option (List ℕ)) (images : D → List ℕ → Type 0)
    (s : StoreTold D) : Type 0 where
  pub journal : StandsNow bytes images s.journal
  pub records : s.records ≡ records_of s.journal.entries
  pub are : InRecords s.journal.entries
  pub flying : s.journal.is_sure ≡ false → InRecords (s.journal.entries ++ s.journal.flight)
  pub each : (c : List ℕ) → images s.journal.disk c → StandsForRecords c

-- The records in memory are those of the journal's entries, and after them those of the group in flight.
pub record Keeps {D : Type 0} (journal : JournalTold D) (held : HeldTold) : Type 0 where
  pub are : InRecords journal.entries
  pub flight : List Record
  pub holds : Holds (records_of journal.entries) flight held
  pub settled : journal.is_sure ≡ true → flight ≡ []
  pub flying : journal.is_sure ≡ false → AreRecords (records_of journal.entries) journal.flight
      × (flight ≡ records_of journal.flight)

-- ---- room

-- The journal with so much room.
abbrev pub with_room : {D : Type 0} → JournalTold D → ℕ → ℕ → JournalTold D
with_room journal spare_entries spare_bytes = record journal {
  spare_entries = spare_entries;
  spare_bytes = spare_bytes;
}

-- A journal may have more room, and else it is as before: its disk made no call.
pub record MakesRoom {D : Type 0} (old new : JournalTold D) : Type 0 where
  pub same : new ≡ with_room old new.spare_entries new.spare_bytes
  pub more_entries : old.spare_entries ≤ new.spare_entries
  pub more_bytes : old.spare_bytes ≤ new.spare_bytes

-- How many commitments or tips, of at most 48 bytes, a journal and the records in memory have room for.
abbrev pub spare_in : {D : Type 0} → JournalTold D → HeldTold → ℕ
spare_in journal held = min held.spare (min journal.spare_entries (journal.spare_bytes / 48))

-- ---- what the calls that add records do

-- What is left by the answer: the group was added, or it is in flight, or all is as before.
abbrev pub AddOutcome : {D A : Type 0} → JournalTold D → JournalTold D → List Entry → Result A AppendError → Type 0
AddOutcome old new group (Ok x) = Put old new group (length old.entries)
AddOutcome old new group (Err DiskFault) = InFlight old new group
AddOutcome old new group (Err (Full need limit)) = (new ≡ old) × (need ≡ size_with old.gate group) × (limit ≡ old.limit)
    × (old.limit < size_with old.gate group)
AddOutcome old new group (Err OutOfMemory) = new ≡ old

-- A group is added to a sure journal. Where it does not fit the limit, the answer says so, or memory ran out. At every
-- moment each image stands for the entries before, or for these and all of the group.
pub record Added {D A : Type 0} (clock : D → ℕ) (images_since : D → ℕ → List ℕ → Type 0) (old new : JournalTold D)
    (group : List Entry) (result : Result A AppendError) : Type 0 where
  pub outcome : AddOutcome old new group result
  pub full : old.limit < size_with old.gate group → (result ≡ Err (Full (size_with old.gate group) old.limit))
      ⊎ (result ≡ Err OutOfMemory)
  pub at_any_moment : LeavesOnly clock images_since old.disk new.disk (StandsForEither old.entries group)

-- The same after a refresh of its own that answered Ok, before which it took the memory that it needs.
pub record AddsAfter {D A : Type 0} (bytes : D → Option (List ℕ)) (clock : D → ℕ)
    (images_since : D → ℕ → List ℕ → Type 0) (old new : JournalTold D) (group : List Entry)
    (result : Result A AppendError) : Type 0 where
  -- the room that the journal has at the refresh
  pub spare_entries : ℕ
  pub spare_bytes : ℕ
  -- the journal after the refresh
  pub mid : JournalTold D
  pub refreshed : Refreshed bytes (with_room old spare_entries spare_bytes) mid
  pub refreshing : LeavesOnly clock images_since old.disk mid.disk (StandsForEither old.entries old.flight)
  pub added : Added clock images_since mid new group result
  pub has_room : result ≡ Err OutOfMemory → ⊥

-- A refresh of its own that failed adds nothing, and puts nothing in flight.
pub record AddsNothing {D A : Type 0} (bytes : D → Option (List ℕ)) (clock : D → ℕ)
    (images_since : D → ℕ → List ℕ → Type 0) (old new : JournalTold D) (result : Result A AppendError) : Type 0 where
  -- the room that the journal has at the refresh
  pub spare_entries : ℕ
  pub spare_bytes : ℕ
  pub unrefreshed : Unrefreshed bytes (with_room old spare_entries spare_bytes) new
  pub fault : result ≡ Err DiskFault
  pub refreshing : LeavesOnly clock images_since old.disk new.disk (StandsForEither old.entries old.flight)

-- Memory ran out before the disk was called.
pub record AddsUntouched {D A : Type 0} (old new : JournalTold D) (result : Result A AppendError) : Type 0 where
  pub room : MakesRoom old new
  pub no_memory : result ≡ Err OutOfMemory

abbrev pub Adds : {D A : Type 0} → (D → Option (List ℕ)) → (D → ℕ) → (D → ℕ → List ℕ → Type 0) → JournalTold D
    → JournalTold D → List Entry → Result A AppendError → Type 0
Adds bytes clock images_since old new group result =
    AddsAfter bytes clock images_since old new group result ⊎ AddsNothing bytes clock images_since old new result
    ⊎ AddsUntouched old new result

-- What is in flight in memory after an append: all of it is acknowledged, or stays in flight, or is taken away.
abbrev pub Settles : Result ℕ AppendError → Result (Unit {0}) AppendError → HeldTold → HeldTold → Type 0
Settles (Ok first) result old new = (result ≡ Ok tt) × ((kept flight : List Record) → Holds kept flight old
    → Holds (kept ++ flight) [] new)
Settles (Err DiskFault) result old new = (result ≡ Err DiskFault) × (new ≡ old)
Settles (Err (Full need limit)) result old new = (result ≡ Err (Full need limit))
    × ((kept flight : List Record) → Holds kept flight old → Holds kept [] new)
Settles (Err OutOfMemory) result old new = (result ≡ Err OutOfMemory)
    × ((kept flight : List Record) → Holds kept flight old → Holds kept [] new)
