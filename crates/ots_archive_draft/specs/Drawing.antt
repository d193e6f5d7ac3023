-- A nonce is drawn for each file.
use Rattle.std.specs.Prelude.{◌≡◌, ℕ, List, [], Result, Ok, Err, Vec}
use Rattle.std.specs.declared.alloc.Global.{Global}
use Rattle.ots_archive_steps.specs.Ends.{IfRoom}
use Rattle.ots_archive_steps.specs.Printing.{Refuses}
use Rattle.ots_archive_text.specs.declared.status.ArchiveStatus.{ArchiveStatus}
use Rattle.ots_archive_text.specs.declared.status.ArchiveStatus.TheVariants.{NonceFault}
use Rattle.ots_archive_world.specs.Steps.{Each, Step}
use Rattle.ots_archive_world.specs.Told.{Told, Draws}
use Rattle.ots_outside.specs.declared.failed.Failed.{Failed}
use Rattle.ots_stamp.specs.declared.target.Target.{Target}

abbrev pub digest_of : Target → List ℕ
digest_of t = t.digest

-- One for a digest; or the run ends with the line that tells that none was drawn.
abbrev pub DrawsFor : List ℕ → Step Target ArchiveStatus
DrawsFor digest old new (Ok t) = Draws old new (Ok t.nonce) × (t.digest ≡ digest)
DrawsFor digest old new (Err s) = (mid : Told) × (f : Failed) × Draws old mid (Err f) × Refuses [] NonceFault mid new s

-- for each in order
abbrev pub DrawsAll : List (List ℕ) → Step (List Target) ArchiveStatus
DrawsAll digests = Each (λ digest. IfRoom (DrawsFor digest)) digests

-- ---- what was drawn

abbrev pub result_targets : Result (Vec Target Global) ArchiveStatus → Result (List Target) ArchiveStatus
result_targets (Ok found) = Ok found.items
result_targets (Err s) = Err s
