-- How steps, one after another, end a run.
use Rattle.std.proofs.Common.{refl, inl, inr}
use Rattle.std.specs.Prelude.{Ok, Err}
use Rattle.ots_archive_steps.specs.Ends.{Ends, IfRoom}
use Rattle.ots_archive_text.specs.declared.status.ArchiveStatus.{ArchiveStatus}
use Rattle.ots_archive_text.specs.declared.status.ArchiveStatus.TheVariants.{OutOfMemory}
use Rattle.ots_archive_world.specs.Steps.{Step, Then}
use Rattle.ots_archive_world.specs.Told.{Told}

module _ {A : Type 0} (first : Step A ArchiveStatus) (next : A → Step ArchiveStatus ArchiveStatus) where
  -- The first ends it.
  pub ends_first : (old new : Told) (s : ArchiveStatus) → first old new (Err s) → Ends (Then first next) old new s
  ends_first old new s ended = inr (inr (s, ended, refl))

  -- The next one ends it.
  pub ends_next : (old mid new : Told) (a : A) (s : ArchiveStatus) → first old mid (Ok a) → Ends (next a) mid new s → Ends (Then first next) old new s
  ends_next old mid new a s done (inl gives) = inl (inl (a, mid, done, gives))
  ends_next old mid new a s done (inr ended) = inr (inl (a, mid, done, ended))

-- Where there is room, a step ends the run as it does.
pub ends_room : (step : Step ArchiveStatus ArchiveStatus) (old new : Told) (s : ArchiveStatus) → Ends step old new s → Ends (IfRoom step) old new s
ends_room step old new s (inl gives) = inl (IfRoom.done gives)
ends_room step old new s (inr ended) = inr (IfRoom.done ended)

-- Where there is none, the run ends.
pub ends_short : (step : Step ArchiveStatus ArchiveStatus) (old : Told) → Ends (IfRoom step) old old OutOfMemory
ends_short step old = inr (IfRoom.before refl refl)
