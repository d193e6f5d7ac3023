-- The files that a command names.
use Rattle.std.specs.Prelude.{◌≡◌, ℕ, List, map, Result, Ok, Err}
use Rattle.ots_archive_inputs.specs.Inputs.{RefusesSums}
use Rattle.ots_archive_steps.specs.Inputs.{Needs}
use Rattle.ots_archive_steps.specs.declared.entries.Entries.{Entries as ReadEntries}
use Rattle.ots_archive_steps.specs.declared.entries.Entries.TheVariants as entries
use Rattle.ots_archive_steps.specs.declared.entries.Entry.{Entry as ReadEntry}
use Rattle.ots_archive_steps.specs.declared.entries.Entry.TheVariants as entry
use Rattle.ots_archive_text.specs.declared.status.ArchiveStatus.{ArchiveStatus}
use Rattle.ots_archive_words.specs.Words.{Names, given, sums}
use Rattle.ots_archive_world.specs.Steps.{Gives, Step}
use Rattle.ots_arguments.specs.Values.{texts}
use Rattle.ots_sums.specs.Sums as listed

-- a file that is named by a word, which is its name; or by a line of a file of sums, which has the name of what a proof
-- is about
pub data Entry : Type 0 where
  word : List ℕ → Entry
  line : List ℕ → Entry

-- the name as it was given
abbrev pub name_of : Entry → List ℕ
name_of (word name) = name
name_of (line name) = name

-- What words name is there at once; a file of sums is read.
abbrev pub ReadsEntries : Names → Step (List Entry) ArchiveStatus
ReadsEntries (given words) old new r = Gives (map word words) old new r
ReadsEntries (sums name) old new (Ok found) = (lines : List listed.Entry)
    × Needs listed.AreSums RefusesSums name old new (Ok lines) × (found ≡ map line (listed.names lines))
ReadsEntries (sums name) old new (Err s) = Needs {A = List listed.Entry} listed.AreSums RefusesSums name old new (Err s)

-- ---- what was read

abbrev pub entry_as : ReadEntry → Entry
entry_as (entry.Word name) = word name.now
entry_as (entry.Line name) = line name.now

abbrev pub entries_of : ReadEntries → List Entry
entries_of (entries.Words words) = map word (texts words.items)
entries_of (entries.Lines lines) = map line (listed.names lines)

abbrev pub result_entries : Result ReadEntries ArchiveStatus → Result (List Entry) ArchiveStatus
result_entries (Ok found) = Ok (entries_of found)
result_entries (Err s) = Err s
