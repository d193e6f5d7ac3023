-- What is held of what proofs want in all.
use Rattle.std.specs.Prelude.{◌≡◌, ◌+◌, ◌<◌, ◌^◌, ℕ, Bool, List, [], map, Ok, Err}
use Rattle.ots_archive_ask.specs.Sheet.{TellsSheet, asked_text}
use Rattle.ots_archive_ask.specs.Total.{Total, Tried}
use Rattle.ots_archive_ask.specs.declared.gathering.Gathered.{Gathered}
use Rattle.ots_archive_steps.specs.Worst.{worse}
use Rattle.ots_archive_text.specs.declared.status.ArchiveStatus.{ArchiveStatus}
use Rattle.ots_archive_world.specs.Steps.{Step}
use Rattle.ots_base.specs.declared.limits.TheConstants.{MAX_PROOF_FILE}
use Rattle.ots_calendar_url.specs.CalendarUrl.{Url, text_of}
use Rattle.ots_request_set.specs.RequestSet.{Asked}
use Rattle.ots_tree.specs.declared.detached.Detached.{Detached}
use Rattle.ots_wanted.specs.Wanted.{TakesIn, TakesWanted}

-- no request yet to the calendars of these URLs
abbrev pub none_yet : List Url → Asked
none_yet urls = record { urls = urls; requests = [] }

-- This is held of what is wanted in all.
pub record Holds (urls : List Url) (t : Total) (g : Gathered) : Type 0 where
  pub takes : TakesIn (none_yet urls) g.set t.wanted
  pub skipped : g.skipped ≡ t.skipped
  pub status : g.status ≡ t.status

-- What a proof wants was added.
pub record AddsProof (all : Bool) (old new : Gathered) (proof : Detached) : Type 0 where
  pub few : ℕ
  pub takes : TakesWanted old.set new.set all proof few
  pub skipped : new.skipped ≡ old.skipped + few
  pub status : new.status ≡ old.status

-- A refusal was added.
pub record AddsRefusal (old new : Gathered) (s : ArchiveStatus) : Type 0 where
  pub set : new.set ≡ old.set
  pub skipped : new.skipped ≡ old.skipped
  pub status : new.status ≡ worse old.status s

-- what was tried was added
abbrev pub AddsTried : Bool → Gathered → Gathered → Tried → Type 0
AddsTried all old new (Ok proof) = AddsProof all old new proof
AddsTried all old new (Err s) = AddsRefusal old new s

-- What one proof skips can be added to the count.
abbrev pub HasRoom : Gathered → Type 0
HasRoom g = g.skipped + MAX_PROOF_FILE < 2 ^ 64

-- It is told what a sheet of this holds, or that its name was there.
abbrev pub TellsGathered : List ℕ → Gathered → Bool → Step ArchiveStatus ArchiveStatus
TellsGathered name g = TellsSheet name (asked_text (map text_of g.set.urls) g.set.requests g.skipped) g.status
