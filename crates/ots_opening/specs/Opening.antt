-- What is found on a disk where a store is opened, and what is left there.
use Rattle.std.specs.Prelude.{◌≡◌, ◌<◌, ◌≤◌, ◌⊎◌, ℕ, true, List, [], length, Option}
use Rattle.ots_base.specs.Cause.{Rose}
use Rattle.ots_base.specs.Told.{IfTold}
use Rattle.ots_disk.specs.Disk.{LeavesOnly}
use Rattle.ots_journal.specs.declared.entry.Entry.{Entry}
use Rattle.ots_journal.specs.declared.errors.JournalError.{JournalError}
use Rattle.ots_journal.specs.declared.errors.JournalError.TheVariants as journal
use Rattle.ots_journal.specs.declared.limits.TheConstants.{MAX_JOURNAL}
use Rattle.ots_journal.specs.Image.{Stands}
use Rattle.ots_journal.specs.Journal.{JournalTold}
use Rattle.ots_journal.specs.Opening.{IsFullOrCause, IsGate, OpenedFrom, Refuses}
use Rattle.ots_store.specs.declared.errors.StoreError.{StoreError}
use Rattle.ots_store.specs.declared.errors.StoreError.TheVariants as store
use Rattle.ots_store.specs.Order.{FirstBad}
use Rattle.ots_store.specs.Store.{InRecords}
use Rattle.ots_opening.specs.declared.errors.OpenError.{OpenError}
use Rattle.ots_opening.specs.declared.errors.OpenError.TheVariants.{Full, OldVersion, NotAJournal, Damaged, BadRecord}
use Rattle.ots_opening.specs.declared.errors.OpenError.TheVariants.{DiskFault, OutOfMemory}

-- the error of a journal that was not opened
abbrev pub error_of_journal : JournalError → OpenError
error_of_journal journal.DiskFault = DiskFault
error_of_journal (journal.Full need limit) = Full need limit
error_of_journal journal.OldVersion = OldVersion
error_of_journal journal.NotAJournal = NotAJournal
error_of_journal (journal.Damaged place) = Damaged place
error_of_journal journal.OutOfMemory = OutOfMemory

-- the error of entries that were not taken as records
abbrev pub error_of_store : StoreError → OpenError
error_of_store (store.BadRecord index) = BadRecord index
error_of_store store.OutOfMemory = OutOfMemory

-- ---- what the bytes of the file are, where they are told

-- They stand for these entries.
abbrev pub AreEntries : Option (List ℕ) → List Entry → Type 0
AreEntries told entries = IfTold told (λ bytes. Stands bytes entries)

-- The next group is put at this gate.
abbrev pub HasGate : Option (List ℕ) → ℕ → Type 0
HasGate told gate = IfTold told (λ bytes. IsGate bytes gate)

-- There are no more of them than a journal may have.
abbrev pub AreWithin : Option (List ℕ) → Type 0
AreWithin told = IfTold told (λ bytes. length bytes ≤ MAX_JOURNAL)

-- They stand for entries that spell records in order.
pub record HasRecords (told : Option (List ℕ)) (entries : List Entry) : Type 0 where
  pub within : AreWithin told
  pub stand : AreEntries told entries
  pub records : InRecords entries

-- a refusal for what the file is
abbrev pub IsOfFile : JournalError → Type 0
IsOfFile journal.DiskFault = ⊥
IsOfFile (journal.Full need limit) = Unit {0}
IsOfFile journal.OldVersion = Unit {0}
IsOfFile journal.NotAJournal = Unit {0}
IsOfFile (journal.Damaged place) = Unit {0}
IsOfFile journal.OutOfMemory = ⊥

-- They are no journal, or there are too many of them, which comes first.
pub record RefusesFile (told : Option (List ℕ)) (e : OpenError) : Type 0 where
  pub why : JournalError
  pub is_of_file : IsOfFile why
  pub full_first : IfTold told (λ bytes. MAX_JOURNAL < length bytes → IsFullOrCause why)
  pub refuses : IfTold told (λ bytes. Refuses MAX_JOURNAL bytes why)
  pub error : e ≡ error_of_journal why

-- They stand for entries of which this is the first that is no record, or may not stand there.
pub record HasBadForm (told : Option (List ℕ)) (e : OpenError) : Type 0 where
  pub entries : List Entry
  pub within : AreWithin told
  pub stand : AreEntries told entries
  pub index : ℕ
  pub bad : FirstBad [] entries index
  pub error : e ≡ BadRecord index

-- No store is opened.
abbrev pub RefusesStore : Option (List ℕ) → OpenError → Type 0
RefusesStore told e = RefusesFile told e ⊎ HasBadForm told e

-- ---- opening

-- A store was opened, whose journal is this.
pub record Opens {D : Type 0} (bytes : D → Option (List ℕ)) (faults clock : D → ℕ) (images : D → List ℕ → Type 0)
    (images_since : D → ℕ → List ℕ → Type 0)
    (disk : D) (j : JournalTold D) : Type 0 where
  pub sure : j.is_sure ≡ true
  pub limit : j.limit ≡ MAX_JOURNAL
  pub has : HasRecords (bytes disk) j.entries
  pub gate : HasGate (bytes disk) j.gate
  pub each : (c : List ℕ) → images j.disk c → Stands c j.entries
  pub moments : LeavesOnly clock images_since disk j.disk (OpenedFrom (images disk))
  pub later : faults disk ≤ faults j.disk

-- The file is refused so, or the disk counted a fault, or memory ran out.
pub data MayClose (refuses : OpenError → Type 0) (disk : Type 0) (e : OpenError) : Type 0 where
  is_refused : refuses e → MayClose refuses disk e
  disk_failed : disk → e ≡ DiskFault → MayClose refuses disk e
  no_memory : e ≡ OutOfMemory → MayClose refuses disk e

-- None was opened. For what a file is refused depends on what it is opened as.
pub record Closes {D : Type 0} (bytes : D → Option (List ℕ)) (faults clock : D → ℕ) (images : D → List ℕ → Type 0)
    (images_since : D → ℕ → List ℕ → Type 0)
    (refuses : Option (List ℕ) → OpenError → Type 0) (disk new : D) (e : OpenError) : Type 0 where
  pub why : MayClose (refuses (bytes disk)) (Rose (faults disk) (faults new)) e
  pub moments : LeavesOnly clock images_since disk new (OpenedFrom (images disk))
  pub later : faults disk ≤ faults new
