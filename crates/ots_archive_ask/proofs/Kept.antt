-- What loops keep.
use Rattle.std.proofs.Common.{◌≤◌, ◌*◌, ℕ, Bool, List, length, map}
use Rattle.std.specs.Prelude.{Ok}
use Rattle.ots_archive_ask.specs.Total.{AllWant, Tried, TriesEach, status_of}
use Rattle.ots_archive_ask.specs.declared.gathering.Gathered.{Gathered}
use Rattle.ots_archive_ask.specs.inner.Held.{Holds}
use Rattle.ots_archive_steps.specs.Entries.{Entry}
use Rattle.ots_archive_steps.specs.Worst.{worst}
use Rattle.ots_archive_world.specs.Told.{Told}
use Rattle.ots_base.specs.declared.limits.TheConstants.{MAX_PROOF_FILE}
use Rattle.ots_calendar_url.specs.CalendarUrl.{Url, text_of}
use Rattle.ots_sheet.specs.Request.{RequestParts}

-- What some proofs want is gathered.
pub record Wanting (urls : List Url) (all : Bool) (tried : List Tried) (g : Gathered) : Type 0 where
  pub wanted : List RequestParts
  pub skipped : ℕ
  pub want : AllWant (map text_of urls) all tried wanted skipped
  pub holds : Holds urls (record { wanted = wanted; skipped = skipped; status = worst (map status_of tried) }) g

-- The first proofs are tried, and what they want is gathered.
pub record Gathers (urls : List Url) (all : Bool) (first : List Entry) (old new : Told) (g : Gathered) : Type 0 where
  pub tried : List Tried
  pub each : TriesEach first old new (Ok tried)
  pub wanting : Wanting urls all tried g
  pub few : g.skipped ≤ MAX_PROOF_FILE * length first
