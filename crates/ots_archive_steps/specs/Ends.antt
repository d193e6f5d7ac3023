-- How steps end a run.
use Rattle.std.specs.Prelude.{◌≡◌, ◌⊎◌, Result, Ok, Err}
use Rattle.ots_archive_text.specs.declared.status.ArchiveStatus.{ArchiveStatus}
use Rattle.ots_archive_text.specs.declared.status.ArchiveStatus.TheVariants.{OutOfMemory}
use Rattle.ots_archive_world.specs.Steps.{Step}
use Rattle.ots_archive_world.specs.Told.{Told}

-- A step is done; or the run ends since memory ran out, before it or after it.
pub data IfRoom {A : Type 0} (step : Step A ArchiveStatus) (old new : Told) (r : Result A ArchiveStatus) : Type 0 where
  done : step old new r → IfRoom step old new r
  before : new ≡ old → r ≡ Err OutOfMemory → IfRoom step old new r
  after : (a : A) → step old new (Ok a) → r ≡ Err OutOfMemory → IfRoom step old new r

-- The run ends with this status: it is what the steps give, or they end it.
abbrev pub Ends : Step ArchiveStatus ArchiveStatus → Told → Told → ArchiveStatus → Type 0
Ends step old new s = step old new (Ok s) ⊎ step old new (Err s)
