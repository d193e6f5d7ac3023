-- What is read of a name, and how a run ends with it.
use Rattle.std.specs.Prelude.{◌≡◌, ◌⊎◌, ℕ, List, [], Ok, Err, Vec}
use Rattle.std.specs.declared.alloc.Global.{Global}
use Rattle.ots_archive_steps.specs.Printing.{Refuses}
use Rattle.ots_archive_text.specs.declared.status.ArchiveStatus.{ArchiveStatus}
use Rattle.ots_archive_text.specs.declared.status.ArchiveStatus.TheVariants as status
use Rattle.ots_archive_world.specs.Steps.{Step}
use Rattle.ots_archive_world.specs.Told.{Told, Reads}
use Rattle.ots_calendar_url.specs.CalendarUrl.{Url}
use Rattle.ots_calendar_url.specs.UrlList.{IsBadUrl, IsListOf}
use Rattle.ots_inputs.specs.declared.error.InputError.{InputError}
use Rattle.ots_inputs.specs.declared.error.InputError.TheVariants.{NoFile, ReadFault, Refused, OutOfMemory}

abbrev pub status_of : InputError ArchiveStatus → ArchiveStatus
status_of NoFile = status.NoFile
status_of ReadFault = status.ReadFault
status_of (Refused s) = s
status_of OutOfMemory = status.OutOfMemory

-- A name gives this, or it has this status.
abbrev pub Looks : {A : Type 0} → (List ℕ → A → Type 0) → (List ℕ → ArchiveStatus → Type 0) → List ℕ
    → Step A ArchiveStatus
Looks Gives Refusing name old new (Ok a) = Reads Gives Refusing name old new (Ok a)
Looks {A} Gives Refusing name old new (Err s) = (e : InputError ArchiveStatus)
    × Reads {A = A} Gives Refusing name old new (Err e) × (s ≡ status_of e)

-- The same, and where it has a status the run ends with that and its line.
abbrev pub Needs : {A : Type 0} → (List ℕ → A → Type 0) → (List ℕ → ArchiveStatus → Type 0) → List ℕ
    → Step A ArchiveStatus
Needs Gives Refusing name old new (Ok a) = Looks Gives Refusing name old new (Ok a)
Needs {A} Gives Refusing name old new (Err s) = (mid : Told) × (why : ArchiveStatus)
    × Looks {A = A} Gives Refusing name old mid (Err why) × Refuses name why mid new s

-- A list gives its calendars; or its first piece that is none has this place, with which the run ends; or memory ran
-- out.
abbrev pub ReadsList : List ℕ → Step (Vec Url Global) ArchiveStatus
ReadsList list old new (Ok urls) = IsListOf list urls.items × (new ≡ old)
ReadsList list old new (Err s) =
    ((place : ℕ) × IsBadUrl list place × Refuses [] (status.BadAddress place) old new s)
    ⊎ ((new ≡ old) × (s ≡ status.OutOfMemory))
