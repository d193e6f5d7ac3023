-- What of a shelf stays where files are read.
use Rattle.std.specs.Prelude.{◌≡◌, ◌≢◌, ℕ, List}
use Rattle.ots_outside.specs.Shelf.{NeverFalls, ShelfFaults, ShelfTold}
use Rattle.ots_calendar_text.specs.declared.status.DaemonStatus.{DaemonStatus}
use Rattle.ots_calendar_text.specs.declared.status.DaemonStatus.TheVariants.{OutOfMemory}
use Rattle.ots_inputs.specs.Opened.{OpensPrefix}

-- The first of these names were opened and read. All else that is told stays, and nothing was written.
pub record ReadsShelf (names : List (List ℕ)) (old new : ShelfTold) (before now : ShelfFaults)
    (r : DaemonStatus) : Type 0 where
  pub opened : OpensPrefix names old.opened new.opened
  pub names_stay : new.names ≡ old.names
  pub slots : (k : ℕ) → new.slots k ≡ old.slots k
  pub short : r ≢ OutOfMemory → new.short ≡ old.short
  pub later : NeverFalls before now
  pub writing : now.writing ≡ before.writing
