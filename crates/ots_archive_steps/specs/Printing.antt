-- What a run prints.
use Rattle.std.specs.Prelude.{◌≡◌, ℕ, List, Result, Ok, Err}
use Rattle.ots_archive_text.specs.Refusal.{refusal_text}
use Rattle.ots_archive_text.specs.declared.status.ArchiveStatus.{ArchiveStatus}
use Rattle.ots_archive_text.specs.declared.status.ArchiveStatus.TheVariants.{WriteFault}
use Rattle.ots_archive_world.specs.Steps.{Step}
use Rattle.ots_archive_world.specs.Told.{Told, Prints}
use Rattle.ots_outside.specs.declared.failed.Failed.{Failed}

-- A text is printed; or the sink fails, and the run ends.
abbrev pub Tells : (List ℕ → Type 0) → Step (Unit {0}) ArchiveStatus
Tells IsText old new (Ok done) = Prints IsText old new (Ok done)
Tells IsText old new (Err s) = (f : Failed) × Prints IsText old new (Err f) × (s ≡ WriteFault)

abbrev pub ended : ArchiveStatus → Result (Unit {0}) Failed → ArchiveStatus
ended status (Ok done) = status
ended status (Err f) = WriteFault

-- A text is printed, and the run ends with this status; or with another where the sink fails.
abbrev pub Says : (List ℕ → Type 0) → ArchiveStatus → Told → Told → ArchiveStatus → Type 0
Says IsText status old new s = (r : Result (Unit {0}) Failed) × Prints IsText old new r × (s ≡ ended status r)

-- So is the line of a refusal over a name. A status that has no line prints nothing.
abbrev pub Refuses : List ℕ → ArchiveStatus → Told → Told → ArchiveStatus → Type 0
Refuses name status old new s = Says (λ text. text ≡ refusal_text name status) status old new s

-- The line of a refusal is printed, and the run goes on.
abbrev pub TellsRefusal : List ℕ → ArchiveStatus → Step (Unit {0}) ArchiveStatus
TellsRefusal name status old new r = Tells (λ text. text ≡ refusal_text name status) old new r
