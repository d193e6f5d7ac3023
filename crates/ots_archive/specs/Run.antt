-- What a run of `otsarchive` does.
use Rattle.std.specs.Prelude.{◌≡◌, ◌⊎◌, ℕ, List, [], Option, None, Some}
use Rattle.ots_archive_ask.specs.Asks.{Asks}
use Rattle.ots_archive_draft.specs.Drafts.{Drafts}
use Rattle.ots_archive_steps.specs.Printing.{Refuses}
use Rattle.ots_archive_take.specs.Takes.{Takes}
use Rattle.ots_archive_text.specs.declared.status.ArchiveStatus.{ArchiveStatus}
use Rattle.ots_archive_text.specs.declared.status.ArchiveStatus.TheVariants.{OutOfMemory, Usage}
use Rattle.ots_archive_words.specs.Words.{ArchiveCommand, ask, command_of, draft, take}
use Rattle.ots_archive_world.specs.Told.{Told}

-- what a command does
abbrev pub Does : ArchiveCommand → Told → Told → ArchiveStatus → Type 0
Does (draft d) old new s = Drafts d old new s
Does (ask a) old new s = Asks a old new s
Does (take t) old new s = Takes t old new s

-- what words do: where they are of no command's form, the line that tells the forms
abbrev pub DoesIfAny : Option ArchiveCommand → Told → Told → ArchiveStatus → Type 0
DoesIfAny (Some command) old new s = Does command old new s
DoesIfAny None old new s = Refuses [] Usage old new s

-- These words did this to the outside, and the run ended so: what they ask for, or nothing, since memory ran out before
-- that was known.
abbrev pub Ran : List (List ℕ) → Told → Told → ArchiveStatus → Type 0
Ran words old new s = DoesIfAny (command_of words) old new s ⊎ ((new ≡ old) × (s ≡ OutOfMemory))
