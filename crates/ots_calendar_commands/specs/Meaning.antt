-- What each command means.
use Rattle.std.specs.Prelude.{◌≡◌, [], Option, Some, None}
use Rattle.ots_arguments.specs.declared.error.WordsError.{WordsError}
use Rattle.ots_arguments.specs.declared.error.WordsError.TheVariants as why
use Rattle.ots_calendar_text.specs.declared.status.DaemonStatus.{DaemonStatus}
use Rattle.ots_calendar_text.specs.declared.status.DaemonStatus.TheVariants.{Usage, OutOfMemory}
use Rattle.ots_calendar_words.specs.Words.{DaemonCommand, serve, batch, tip, anchor, list, migrate}
use Rattle.ots_calendar_endings.specs.Moments.{AddsNothing}
use Rattle.ots_calendar_endings.specs.Ran.{Meaning}
use Rattle.ots_calendar_endings.specs.RunEnd.{RunEnd, refused}
use Rattle.ots_calendar_endings.specs.Told.{Told}
use Rattle.ots_calendar_maintenance.specs.Anchor.{anchor_meaning}
use Rattle.ots_calendar_maintenance.specs.List.{list_meaning}
use Rattle.ots_calendar_maintenance.specs.Migrate.{migrate_meaning}
use Rattle.ots_calendar_maintenance.specs.Tip.{tip_meaning}
use Rattle.ots_calendar_batch.specs.Batch.{DrawsTold, batch_meaning}
use Rattle.ots_calendar_serve.specs.Serve.{serve_meaning}
use Rattle.ots_calendar_serve.specs.Serve.{LinksTold}

-- What is told of a run: of its disk, its files and its sink before and after, of what it drew, and of the links.
pub record RunTold : Type 1 where
  pub old : Told
  pub new : Told
  pub draws : DrawsTold
  pub links : LinksTold

-- the status of words that were not read
abbrev pub words_status : WordsError → DaemonStatus
words_status why.Usage = Usage
words_status why.OutOfMemory = OutOfMemory

-- The words are refused.
abbrev pub IsUsage : RunEnd → Type 0
IsUsage e = e ≡ refused [] Usage

-- Words of no command's form.
abbrev pub usage_meaning : Told → Told → Meaning
usage_meaning old new = record {
  reads = [];
  answers = IsUsage;
  adds = AddsNothing;
  ready = ⊥;
  draws = ⊥;
  serves = ⊥;
}

-- What words mean. What a batch means rests on the clock and the nonces, and what serving means on the accepter.
abbrev pub words_meaning : RunTold → Option DaemonCommand → Told → Told → Meaning
words_meaning run None = usage_meaning
words_meaning run (Some (serve asked)) = serve_meaning run.links asked
words_meaning run (Some (batch asked)) = batch_meaning run.draws asked
words_meaning run (Some tip) = tip_meaning
words_meaning run (Some (anchor asked)) = anchor_meaning asked
words_meaning run (Some list) = list_meaning
words_meaning run (Some (migrate old)) = migrate_meaning old

abbrev pub meaning_in : RunTold → Option DaemonCommand → Meaning
meaning_in run command = words_meaning run command run.old run.new

-- All commands but serving, which rests on who connects.
abbrev pub IsAlone : Option DaemonCommand → Type 0
IsAlone None = Unit {0}
IsAlone (Some (serve asked)) = ⊥
IsAlone (Some (batch asked)) = Unit {0}
IsAlone (Some tip) = Unit {0}
IsAlone (Some (anchor asked)) = Unit {0}
IsAlone (Some list) = Unit {0}
IsAlone (Some (migrate old)) = Unit {0}
