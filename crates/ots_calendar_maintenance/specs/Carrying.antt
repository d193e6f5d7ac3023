-- Carrying entries over, group after group. It serves the code of `migrate`.
use Rattle.std.specs.Prelude.{◌≡◌, ◌<◌, ◌≤◌, ℕ, ◌*◌, true, List, [], ◌++◌, length, take, min, Option, Some, None}
use Rattle.std.specs.Prelude.{Result, Ok, Err}
use Rattle.ots_disk.specs.Disk.{LeavesOnly}
use Rattle.ots_journal.specs.declared.entry.Entry.{Entry}
use Rattle.ots_journal.specs.declared.errors.AppendError.{AppendError}
use Rattle.ots_journal.specs.declared.errors.AppendError.TheVariants as append
use Rattle.ots_journal.specs.declared.limits.TheConstants.{MAX_GROUP}
use Rattle.ots_journal.specs.Image.{Stands}
use Rattle.ots_journal.specs.Journal.{JournalTold}
use Rattle.ots_calendar_text.specs.Lines.{migrated_line}
use Rattle.ots_calendar_text.specs.Refusal.{refusal_text}
use Rattle.ots_calendar_text.specs.declared.status.DaemonStatus.{DaemonStatus}
use Rattle.ots_calendar_text.specs.declared.status.DaemonStatus.TheVariants as status
use Rattle.ots_calendar_maintenance.specs.declared.migrate_command.MigrateError.{MigrateError}
use Rattle.ots_calendar_maintenance.specs.declared.migrate_command.MigrateError.TheVariants.{BadRecord, NotPrefix}
use Rattle.ots_calendar_maintenance.specs.declared.migrate_command.MigrateError.TheVariants.{NotStored}
use Rattle.ots_calendar_endings.specs.RunEnd.{AllStand, Comes, RunEnd, done, nowhere}
use Rattle.ots_calendar_maintenance.specs.Migrate.{AddsPrefix, FitGroups, MigrateAnswers, gate_after, size_at}
use Rattle.ots_calendar_endings.specs.Moments.{StandsWith}

abbrev pub migrate_status : MigrateError → DaemonStatus
migrate_status (NotPrefix index) = status.NotPrefix index
migrate_status (BadRecord index) = status.BadRecord index
migrate_status (NotStored append.DiskFault) = status.DiskFault
migrate_status (NotStored (append.Full need limit)) = status.Full need limit
migrate_status (NotStored append.OutOfMemory) = status.OutOfMemory

-- the second begins with the first
abbrev pub IsPrefix : List Entry → List Entry → Type 0
IsPrefix entries old = (rest : List Entry) × (old ≡ entries ++ rest)

-- these entries, or these and a prefix of the rest
abbrev pub StandsToPrefix : List Entry → List Entry → List ℕ → Type 0
StandsToPrefix entries rest c = (prefix : List Entry) × (later : List Entry) × (rest ≡ prefix ++ later)
    × Stands c (entries ++ prefix)

-- So many groups of the rest were added to a sure journal.
pub record CarriedTo {D : Type 0} (clock : D → ℕ) (images : D → List ℕ → Type 0)
    (images_since : D → ℕ → List ℕ → Type 0) (rest : List Entry) (old new : JournalTold D) (k : ℕ) : Type 0 where
  pub entries : new.entries ≡ old.entries ++ take (MAX_GROUP * k) rest
  pub gate : new.gate ≡ gate_after old.gate rest k
  pub fits : FitGroups old.limit old.gate rest k
  pub limit : new.limit ≡ old.limit
  pub sure : new.is_sure ≡ true
  pub kept : (c : List ℕ) → images new.disk c → Stands c new.entries
  pub moments : LeavesOnly clock images_since old.disk new.disk (StandsToPrefix old.entries rest)

-- The same up to this place among the rest, which is after whole groups or at its end.
pub record CarriedUpTo {D : Type 0} (clock : D → ℕ) (images : D → List ℕ → Type 0)
    (images_since : D → ℕ → List ℕ → Type 0) (rest : List Entry) (old new : JournalTold D) (place : ℕ) : Type 0 where
  pub groups : ℕ
  pub at : place ≡ min (MAX_GROUP * groups) (length rest)
  pub carried : CarriedTo clock images images_since rest old new groups

-- the group with this number does not fit
pub record StopsFull {D : Type 0} (clock : D → ℕ) (images : D → List ℕ → Type 0)
    (images_since : D → ℕ → List ℕ → Type 0) (rest : List Entry) (old new : JournalTold D)
    (need limit : ℕ) : Type 0 where
  pub groups : ℕ
  pub left : MAX_GROUP * groups < length rest
  pub carried : CarriedTo clock images images_since rest old new groups
  pub over : old.limit < size_at old.gate rest groups
  pub need_is : need ≡ size_at old.gate rest groups
  pub limit_is : limit ≡ old.limit

-- What is added of the rest, by the answer.
abbrev pub CarriesOver : {D : Type 0} → (D → ℕ) → (D → List ℕ → Type 0) → (D → ℕ → List ℕ → Type 0) → Type 0
    → List Entry → JournalTold D → JournalTold D → Result (Unit {0}) AppendError → Type 0
CarriesOver clock images images_since disk rest old new (Ok x) = (groups : ℕ) × (length rest ≤ MAX_GROUP * groups)
    × CarriedTo clock images images_since rest old new groups
CarriesOver clock images images_since disk rest old new (Err append.DiskFault) = disk
    × LeavesOnly clock images_since old.disk new.disk (StandsToPrefix old.entries rest)
CarriesOver clock images images_since disk rest old new (Err (append.Full need limit)) = StopsFull clock images
    images_since rest old new need limit
CarriesOver clock images images_since disk rest old new (Err append.OutOfMemory) = LeavesOnly clock images_since
    old.disk new.disk (StandsToPrefix old.entries rest)

-- what is known of the journal after a refusal
abbrev pub carried_by : List Entry → MigrateError → Option (List Entry)
carried_by entries (NotPrefix index) = Some entries
carried_by entries (BadRecord index) = Some entries
carried_by entries (NotStored append.DiskFault) = None
carried_by entries (NotStored (append.Full need limit)) = Some entries
carried_by entries (NotStored append.OutOfMemory) = None

abbrev pub migrate_ending : List Entry → List Entry → Result (Unit {0}) MigrateError → RunEnd
migrate_ending old entries (Ok x) = done old (migrated_line (length old))
migrate_ending old entries (Err e) = record {
  status = migrate_status e;
  text = refusal_text [] (migrate_status e);
  entries = carried_by entries e;
}

-- What is to be shown of it.
pub record Carries {D : Type 0} (clock : D → ℕ) (images : D → List ℕ → Type 0) (images_since : D → ℕ → List ℕ → Type 0)
    (disk : Type 0) (old_entries : List Entry) (old new : JournalTold D)
    (r : Result (Unit {0}) MigrateError) : Type 0 where
  pub comes : Comes (MigrateAnswers old.limit old_entries old.gate old.entries) nowhere disk
      (migrate_ending old_entries new.entries r)
  pub stand : AllStand (images new.disk) (migrate_ending old_entries new.entries r).entries
  pub moments : LeavesOnly clock images_since old.disk new.disk
      (StandsWith (AddsPrefix old_entries old.entries) old.entries)
