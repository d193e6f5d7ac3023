-- What a command means, and what it is that it ran.
use Rattle.std.specs.Prelude.{◌≡◌, ◌⊎◌, ◌≤◌, ℕ, List}
use Rattle.ots_base.specs.Cause.{Rose}
use Rattle.ots_inputs.specs.Opened.{StopsAt}
use Rattle.ots_journal.specs.declared.entry.Entry.{Entry}
use Rattle.ots_journal.specs.Opening.{OpenedFrom}
use Rattle.ots_calendar_text.specs.declared.status.DaemonStatus.{DaemonStatus}
use Rattle.ots_calendar_text.specs.declared.status.DaemonStatus.TheVariants.{OutOfMemory}
use Rattle.ots_calendar_endings.specs.Files.{ReadsShelf}
use Rattle.ots_calendar_endings.specs.Moments.{KeepsFound, OpenedOrRan}
use Rattle.ots_calendar_endings.specs.RunEnd.{Comes, Ends, RunEnd, nowhere}
use Rattle.ots_calendar_endings.specs.Told.{Leaves, Told}

-- What a command means.
pub record Meaning : Type 1 where
  -- the names that it reads, in order
  pub reads : List (List ℕ)
  -- how it ends
  pub answers : RunEnd → Type 0
  -- what it may add to these entries
  pub adds : List Entry → List Entry → Type 0
  -- All that it names is in order, so that the journal is opened.
  pub ready : Type 0
  -- It may draw nonces.
  pub draws : Type 0
  -- It may serve connections.
  pub serves : Type 0

-- Of the names that are read, reading stopped at this one.
abbrev pub StopsIn : List (List ℕ) → Told → Told → List ℕ → Type 0
StopsIn names old new = StopsAt names old.shelf.opened new.shelf.opened old.shelf_faults new.shelf_faults

-- It ended so, and no name was read.
abbrev pub EndsAs : (RunEnd → Type 0) → Told → Told → DaemonStatus → Type 0
EndsAs may old new r = Ends (Comes may nowhere (Rose old.disk_faults new.disk_faults)) new.images
    (Rose old.sink_faults new.sink_faults) old.taken new.taken r

-- A command with this meaning ran from the one moment to the other, and answered this status. Of every moment between
-- them it is said what a crash may leave, of serving only what one may leave in the end.
pub record Ran (means : Told → Told → Meaning) (old new : Told) (r : DaemonStatus) : Type 0 where
  pub ends : Ends
      (Comes (means old new).answers (StopsIn (means old new).reads old new) (Rose old.disk_faults new.disk_faults))
      new.images (Rose old.sink_faults new.sink_faults) old.taken new.taken r
  pub moments : Leaves old new (OpenedOrRan old.bytes old.images (means old new).adds) ⊎ (means old new).serves
  -- the journal was opened, and each image stands for entries that begin with those found; or no more than opening was
  -- done
  pub kept : KeepsFound old.bytes new.images ⊎ Leaves old new (OpenedFrom old.images)
  pub files : ReadsShelf (means old new).reads old.shelf new.shelf old.shelf_faults new.shelf_faults r
  pub disk : (old.disk_faults ≤ new.disk_faults) ⊎ (means old new).serves
  pub sink : old.sink_faults ≤ new.sink_faults

-- No call of the disk, of the shelf or of the sink failed.
pub record NoFaults (old new : Told) : Type 0 where
  pub opening : ¬ Rose old.shelf_faults.opening new.shelf_faults.opening
  pub reading : ¬ Rose old.shelf_faults.reading new.shelf_faults.reading
  pub disk : ¬ Rose old.disk_faults new.disk_faults
  pub sink : ¬ Rose old.sink_faults new.sink_faults

-- The status is that of an ending as it is defined, or memory ran out.
abbrev pub Completes : (RunEnd → Type 0) → DaemonStatus → Type 0
Completes answers r = (r ≡ OutOfMemory) ⊎ ((e : RunEnd) × answers e × (r ≡ e.status))
