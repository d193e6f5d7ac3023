-- What `take` does.
use Rattle.std.specs.Prelude.{◌≡◌, ℕ, List, map, Result, Err}
use Rattle.ots_archive_inputs.specs.Inputs.{RefusesSheet}
use Rattle.ots_archive_steps.specs.Ends.{Ends, IfRoom}
use Rattle.ots_archive_steps.specs.Entries.{Entry, ReadsEntries}
use Rattle.ots_archive_steps.specs.Inputs.{Needs}
use Rattle.ots_archive_steps.specs.Printing.{Refuses}
use Rattle.ots_archive_steps.specs.Worst.{worst}
use Rattle.ots_archive_take.specs.Counting.{TellsCounts}
use Rattle.ots_archive_take.specs.Names.{AreDistinct, IsTwice, made_name}
use Rattle.ots_archive_take.specs.Taking.{Job, TakesAll}
use Rattle.ots_archive_text.specs.declared.status.ArchiveStatus.{ArchiveStatus}
use Rattle.ots_archive_text.specs.declared.status.ArchiveStatus.TheVariants.{Twice}
use Rattle.ots_archive_words.specs.Words.{Taking}
use Rattle.ots_archive_world.specs.Steps.{Gives, Step, Then}
use Rattle.ots_archive_world.specs.Told.{Told}
use Rattle.ots_replies.specs.Replies.{IsSheetOf}
use Rattle.ots_sheet.specs.Reply.{Answer}

-- All proofs are taken, and the run ends with the worst of their statuses.
abbrev pub TakesToEnd : Job → List Entry → Step ArchiveStatus ArchiveStatus
TakesToEnd j entries = Then (TakesAll j entries) (λ statuses. Gives (worst statuses))

-- What the sheet has of each calendar is told before.
abbrev pub TellsAndTakes : Job → List Entry → Step ArchiveStatus ArchiveStatus
TellsAndTakes j entries = Then (TellsCounts j.answers) (λ told. TakesToEnd j entries)

-- the names under which these proofs are made
abbrev pub names_made : Job → List Entry → List (List ℕ)
names_made j entries = map (made_name j.into) entries

-- Where two proofs would have one name, the run ends before anything is told or made.
pub data TakesDistinct (j : Job) (entries : List Entry) (old new : Told)
    (r : Result ArchiveStatus ArchiveStatus) : Type 0 where
  distinct : AreDistinct (names_made j entries) → TellsAndTakes j entries old new r → TakesDistinct j entries old new r
  twice : (place : ℕ) (s : ArchiveStatus) (name : IsTwice (names_made j entries) place)
      → Refuses name.name Twice old new s → r ≡ Err s → TakesDistinct j entries old new r

-- in this folder, by these answers, where so many calendars have to timestamp a draft
abbrev pub TakesBy : List ℕ → ℕ → List Entry → List Answer → Step ArchiveStatus ArchiveStatus
TakesBy into least entries answers =
    IfRoom (TakesDistinct (record { into = into; least = least; answers = answers }) entries)

-- The sheet of replies is read.
abbrev pub TakesEntries : Taking → List Entry → Step ArchiveStatus ArchiveStatus
TakesEntries t entries = Then (Needs IsSheetOf RefusesSheet t.replies) (TakesBy t.into t.least entries)

-- What is named is known first.
abbrev pub Takes : Taking → Told → Told → ArchiveStatus → Type 0
Takes t old new s = Ends (Then (ReadsEntries t.names) (TakesEntries t)) old new s
