-- What `draft` does.
use Rattle.std.specs.Prelude.{ℕ, Bool, List, map, if◌then◌else◌, Vec}
use Rattle.std.specs.declared.alloc.Global.{Global}
use Rattle.std.specs.List.{list_all}
use Rattle.ots_archive_draft.specs.Drawing.{DrawsAll}
use Rattle.ots_archive_draft.specs.Files.{HashesAll, NamesLines}
use Rattle.ots_archive_draft.specs.Writing.{Batch, WritesAll}
use Rattle.ots_archive_inputs.specs.Inputs.{RefusesSums}
use Rattle.ots_archive_steps.specs.Ends.{Ends, IfRoom}
use Rattle.ots_archive_steps.specs.Inputs.{Needs, ReadsList}
use Rattle.ots_archive_text.specs.declared.status.ArchiveStatus.{ArchiveStatus}
use Rattle.ots_archive_text.specs.declared.status.ArchiveStatus.TheVariants.{Done, Exists}
use Rattle.ots_archive_words.specs.Words.{Drafting, Names, given, sums}
use Rattle.ots_archive_world.specs.Steps.{Gives, Step, Then}
use Rattle.ots_archive_world.specs.Told.{Told}
use Rattle.ots_calendar_url.specs.CalendarUrl.{Url, text_of}
use Rattle.ots_stamp.specs.declared.target.Target.{Target}
use Rattle.ots_sums.specs.Sums.{AreSums, Entry, digests}

-- Done where all were made, else something was there.
abbrev pub made_status : List Bool → ArchiveStatus
made_status made = if list_all (λ one. one) made then Done else Exists

-- The drafts of all files are written.
abbrev pub WritesBatch : Batch → Step ArchiveStatus ArchiveStatus
WritesBatch b = Then (WritesAll b) (λ made. Gives (made_status made))

-- the same of these files, with these digests and nonces
abbrev pub DraftsTargets : List (List ℕ) → List (List ℕ) → List Target → Step ArchiveStatus ArchiveStatus
DraftsTargets addresses names targets =
    IfRoom (WritesBatch (record { addresses = addresses; names = names; targets = targets }))

-- A nonce is drawn for each file, and then the drafts are written.
abbrev pub DraftsFiles : List (List ℕ) → List (List ℕ) → List (List ℕ) → Step ArchiveStatus ArchiveStatus
DraftsFiles addresses names digests = Then (DrawsAll digests) (DraftsTargets addresses names)

-- of the files that lines of sums name, by these names, with the hashes that the lines have
abbrev pub DraftsNamed : List (List ℕ) → List Entry → List (List ℕ) → Step ArchiveStatus ArchiveStatus
DraftsNamed addresses lines names = IfRoom (DraftsFiles addresses names (digests lines))

-- of these files
abbrev pub DraftsLines : List (List ℕ) → List Entry → Step ArchiveStatus ArchiveStatus
DraftsLines addresses lines = Then (NamesLines lines) (DraftsNamed addresses lines)

-- of the files that are named by words, which are hashed; or by the lines of a file of sums, which is read
abbrev pub DraftsNames : List (List ℕ) → Names → Step ArchiveStatus ArchiveStatus
DraftsNames addresses (given names) = Then (HashesAll names) (DraftsFiles addresses names)
DraftsNames addresses (sums name) = Then (Needs AreSums RefusesSums name) (DraftsLines addresses)

-- The list of calendars is read, then the files.
abbrev pub DraftsFor : Names → Vec Url Global → Step ArchiveStatus ArchiveStatus
DraftsFor names urls = DraftsNames (map text_of urls.items) names

abbrev pub Drafts : Drafting → Told → Told → ArchiveStatus → Type 0
Drafts d old new s = Ends (Then (ReadsList d.calendars) (DraftsFor d.names)) old new s
