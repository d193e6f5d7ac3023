-- What holds of every run.
use Rattle.std.specs.Prelude.{◌≡◌, ◌≤◌, ◌⊎◌, ℕ, List, Option, Some}
use Rattle.ots_outside.specs.Shelf.{Names}
use Rattle.ots_journal.specs.declared.entry.Entry.{Entry}
use Rattle.ots_journal.specs.Opening.{OpenedFrom}
use Rattle.ots_opening.specs.Images.{IsOnlyImage, StandsAfter}
use Rattle.ots_calendar_text.specs.declared.status.DaemonStatus.{DaemonStatus}
use Rattle.ots_calendar_words.specs.Words.{DaemonCommand}
use Rattle.ots_calendar_endings.specs.Moments.{KeepsFound, StandsWith}
use Rattle.ots_calendar_endings.specs.Ran.{Completes, NoFaults, Ran}
use Rattle.ots_calendar_endings.specs.Told.{Leaves}
use Rattle.ots_calendar_commands.specs.Meaning.{RunTold, meaning_in, words_meaning}

-- It ran as the words mean.
abbrev pub RanAs : Option DaemonCommand → RunTold → DaemonStatus → Type 0
RanAs command run r = Ran (words_meaning run command) run.old run.new r

-- Where no call of the disk, of the files or of the sink failed, the status is the defined one, or memory ran out.
abbrev pub CompletesAs : Option DaemonCommand → RunTold → DaemonStatus → Type 0
CompletesAs command run r = NoFaults run.old run.new → Completes (meaning_in run command).answers r

-- What of the journal's file a crash may leave.
pub record Survives (command : Option DaemonCommand) (run : RunTold) : Type 0 where
  -- Whatever it might leave before: in the end, where the journal was opened, each image stands for entries that begin
  -- with those found; else no more than opening was done.
  pub found : KeepsFound run.old.bytes run.new.images ⊎ Leaves run.old run.new (OpenedFrom run.old.images)
  -- Where it would leave before what is read, and no more: at each moment, for its entries, or for these and what the
  -- command may add, but for serving; and in the end for entries that begin with them.
  pub moments : (entries : List Entry) → IsOnlyImage run.old.bytes run.old.images entries
      → Leaves run.old run.new (StandsWith ((meaning_in run command).adds entries) entries)
      ⊎ (meaning_in run command).serves
  pub after : (entries : List Entry) → IsOnlyImage run.old.bytes run.old.images entries
      → (c : List ℕ) → run.new.images c → StandsAfter entries c

-- What stays as it was: the disk, unless all that the words name is in order; the accepter, unless it may serve; the
-- nonces, unless it may draw. Serving aside, their count of faults has not fallen.
pub record Stays (command : Option DaemonCommand) (run : RunTold) (disk accepter nonces : Type 0) : Type 0 where
  pub untouched : disk ⊎ (meaning_in run command).ready
  pub unaccepted : accepter ⊎ (meaning_in run command).serves
  pub undrawn : nonces ⊎ (meaning_in run command).draws
  pub nonce_faults : (run.draws.faults ≤ run.draws.faults_now) ⊎ (meaning_in run command).serves

-- The files, the journal's file, the clock and the nonces tell what they are asked.
pub record TellsAll (run : RunTold) : Type 0 where
  pub names : Names
  pub has_names : run.old.shelf.names ≡ Some names
  pub bytes : List ℕ
  pub has_bytes : run.old.bytes ≡ Some bytes
  pub second : ℕ
  pub has_second : run.draws.second ≡ Some second
  pub left : List ℕ
  pub has_left : run.draws.left ≡ Some left
  pub left_now : List ℕ
  pub has_left_now : run.draws.left_now ≡ Some left_now
