-- What is found where the journal is opened as a book, and the status of a journal that was not opened.
use Rattle.std.specs.Prelude.{◌≡◌, ◌⊎◌, ℕ, List, Option}
use Rattle.ots_journal.specs.declared.entry.Entry.{Entry}
use Rattle.ots_journal.specs.Journal.{JournalTold}
use Rattle.ots_store.specs.Order.{records_of}
use Rattle.ots_opening.specs.declared.errors.OpenError.{OpenError}
use Rattle.ots_opening.specs.declared.errors.OpenError.TheVariants as why
use Rattle.ots_opening.specs.Opening.{HasRecords, Opens, RefusesStore}
use Rattle.ots_calendar.specs.Values.{AreTrue, FirstUntrue}
use Rattle.ots_calendar_text.specs.declared.status.DaemonStatus.{DaemonStatus}
use Rattle.ots_calendar_text.specs.declared.status.DaemonStatus.TheVariants.{Full, OldVersion, NotAJournal, Damaged}
use Rattle.ots_calendar_text.specs.declared.status.DaemonStatus.TheVariants.{BadRecord, DiskFault, OutOfMemory}

abbrev pub open_status : OpenError → DaemonStatus
open_status why.DiskFault = DiskFault
open_status (why.Full need limit) = Full need limit
open_status why.OldVersion = OldVersion
open_status why.NotAJournal = NotAJournal
open_status (why.Damaged place) = Damaged place
open_status (why.BadRecord index) = BadRecord index
open_status why.OutOfMemory = OutOfMemory

-- It is the status of such an error.
pub record IsStatusOf (Such : OpenError → Type 0) (s : DaemonStatus) : Type 0 where
  pub error : OpenError
  pub such : Such error
  pub status : s ≡ open_status error

-- ---- what the bytes of the file are, where they are told

-- They stand for records whose values are right too.
pub record HasBook (told : Option (List ℕ)) (entries : List Entry) : Type 0 where
  pub store : HasRecords told entries
  pub are_true : AreTrue (records_of entries)

-- They are a book's, whatever it holds.
abbrev pub HasSomeBook : Option (List ℕ) → Type 0
HasSomeBook told = (entries : List Entry) × HasBook told entries

-- They stand for records of which this is the first whose values are not right.
pub record HasBadValue (told : Option (List ℕ)) (e : OpenError) : Type 0 where
  pub entries : List Entry
  pub has : HasRecords told entries
  pub index : ℕ
  pub untrue : FirstUntrue (records_of entries) index
  pub error : e ≡ why.BadRecord index

-- No book is opened.
abbrev pub RefusesBook : Option (List ℕ) → OpenError → Type 0
RefusesBook told e = RefusesStore told e ⊎ HasBadValue told e

-- ---- opening

-- A book was opened.
pub record OpensBook {D : Type 0} (bytes : D → Option (List ℕ)) (faults clock : D → ℕ) (images : D → List ℕ → Type 0)
    (images_since : D → ℕ → List ℕ → Type 0)
    (disk : D) (j : JournalTold D) : Type 0 where
  pub store : Opens bytes faults clock images images_since disk j
  pub are_true : AreTrue (records_of j.entries)
