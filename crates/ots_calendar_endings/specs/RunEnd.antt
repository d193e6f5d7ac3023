-- How a run ends.
use Rattle.std.specs.Prelude.{◌≡◌, ℕ, List, [], Option, Some, None}
use Rattle.ots_inputs.specs.declared.error.InputError.{InputError}
use Rattle.ots_inputs.specs.declared.error.InputError.TheVariants as input
use Rattle.ots_journal.specs.declared.entry.Entry.{Entry}
use Rattle.ots_journal.specs.Image.{Stands}
use Rattle.ots_calendar_text.specs.Refusal.{refusal_text}
use Rattle.ots_calendar_text.specs.declared.status.DaemonStatus.{DaemonStatus}
use Rattle.ots_calendar_text.specs.declared.status.DaemonStatus.TheVariants.{Done, NoFile, ReadFault, DiskFault}
use Rattle.ots_calendar_text.specs.declared.status.DaemonStatus.TheVariants.{OutOfMemory}
use Rattle.ots_calendar_endings.specs.Printed.{PrintsLast}

pub record RunEnd : Type 0 where
  pub status : DaemonStatus
  -- what is printed
  pub text : List ℕ
  -- what the journal holds then, where it was opened
  pub entries : Option (List Entry)

-- the status of a name that gave nothing
abbrev pub status_of : InputError DaemonStatus → DaemonStatus
status_of input.NoFile = NoFile
status_of input.ReadFault = ReadFault
status_of (input.Refused s) = s
status_of input.OutOfMemory = OutOfMemory

-- A refusal over a name, before the journal was opened, or where it is not known what it holds: its line is printed.
abbrev pub refused : List ℕ → DaemonStatus → RunEnd
refused name status = record { status = status; text = refusal_text name status; entries = None }

-- A refusal that leaves these entries.
abbrev pub declined : List Entry → DaemonStatus → RunEnd
declined entries status = record { status = status; text = refusal_text [] status; entries = Some entries }

-- The command did its work, and printed this.
abbrev pub done : List Entry → List ℕ → RunEnd
done entries text = record { status = Done; text = text; entries = Some entries }

-- It ends as it is defined; or a name could not be read, at which the shelf counted a fault, or the disk counted one,
-- and that is told; or memory ran out.
pub data Comes (answers : RunEnd → Type 0) (stops_at : List ℕ → Type 0) (disk : Type 0) (e : RunEnd) : Type 0 where
  as_defined : answers e → Comes answers stops_at disk e
  not_read : (name : List ℕ) → stops_at name → e ≡ refused name ReadFault → Comes answers stops_at disk e
  disk_failed : disk → e ≡ refused [] DiskFault → Comes answers stops_at disk e
  no_memory : e ≡ refused [] OutOfMemory → Comes answers stops_at disk e

-- No name could not be read.
abbrev pub nowhere : List ℕ → Type 0
nowhere name = ⊥

-- Each image stands for these entries, where it is said which there are.
abbrev pub AllStand : (List ℕ → Type 0) → Option (List Entry) → Type 0
AllStand images None = Unit {0}
AllStand images (Some entries) = (c : List ℕ) → images c → Stands c entries

-- How a run ended: it came to an ending, whose text was printed last, and the images that the disk may leave stand for
-- what the journal holds then.
pub record Ends (may : RunEnd → Type 0) (images : List ℕ → Type 0) (printing : Type 0) (taken now : Option (List ℕ))
    (r : DaemonStatus) : Type 0 where
  pub ending : RunEnd
  pub comes : may ending
  pub stand : AllStand images ending.entries
  pub printed : PrintsLast printing ending.status ending.text taken now r
