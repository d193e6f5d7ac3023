-- What `ask` does.
use Rattle.std.specs.Prelude.{ℕ, Bool, List, map}
use Rattle.ots_archive_ask.specs.Sheet.{WritesSheet}
use Rattle.ots_archive_ask.specs.Total.{TriesAll}
use Rattle.ots_archive_steps.specs.Ends.{Ends, IfRoom}
use Rattle.ots_archive_steps.specs.Entries.{Entry, ReadsEntries}
use Rattle.ots_archive_steps.specs.Inputs.{ReadsList}
use Rattle.ots_archive_text.specs.declared.status.ArchiveStatus.{ArchiveStatus}
use Rattle.ots_archive_words.specs.Words.{Asking}
use Rattle.ots_archive_world.specs.Steps.{Step, Then}
use Rattle.ots_archive_world.specs.Told.{Told}
use Rattle.ots_calendar_url.specs.CalendarUrl.{text_of}

-- The proofs that are named are tried, and then the sheet of what they want is made.
abbrev pub AsksProofs : Bool → List ℕ → List (List ℕ) → List Entry → Step ArchiveStatus ArchiveStatus
AsksProofs all sheet urls entries = Then (TriesAll urls all entries) (λ total. IfRoom (WritesSheet sheet urls total))

-- The file of sums is read, where one is named.
abbrev pub AsksUrls : Asking → List (List ℕ) → Step ArchiveStatus ArchiveStatus
AsksUrls a urls = Then (ReadsEntries a.names) (λ entries. AsksProofs a.all a.sheet urls entries)

-- The list of calendars is read, then the proofs.
abbrev pub Asks : Asking → Told → Told → ArchiveStatus → Type 0
Asks a old new s = Ends (Then (ReadsList a.calendars) (λ urls. AsksUrls a (map text_of urls.items))) old new s
