-- What of the shelf stays, read after read.
use Rattle.std.proofs.Common.{ℕ, List, ◌++◌, ◌∙◌}
use Rattle.ots_outside.specs.Shelf.{ShelfFaults, ShelfTold}
use Rattle.ots_calendar_text.specs.declared.status.DaemonStatus.{DaemonStatus}
use Rattle.ots_inputs.proofs.Opened.{never_falls, prefix_of_more, then_opened}
use Rattle.ots_calendar_endings.specs.Files.{ReadsShelf}
use Rattle.ots_inputs.specs.Opened.{Opens}

pub shelf_prefix : (names rest : List (List ℕ)) (old new : ShelfTold) (a b : ShelfFaults) (s : DaemonStatus) → ReadsShelf names old new a b s → ReadsShelf (names ++ rest) old new a b s
shelf_prefix names rest old new a b s h = record {
  opened = prefix_of_more names rest old.opened new.opened h.opened;
  names_stay = h.names_stay;
  slots = h.slots;
  short = h.short;
  later = h.later;
  writing = h.writing;
}

-- one read after others that gave what they were to
pub shelf_then : (names rest : List (List ℕ)) (old mid new : ShelfTold) (a b c : ShelfFaults) (s : DaemonStatus) → Opens names old.opened mid.opened → ReadsShelf names old mid a b s → ReadsShelf rest mid new b c s
    → ReadsShelf (names ++ rest) old new a c s
shelf_then names rest old mid new a b c s opened first then = record {
  opened = then_opened names rest old.opened mid.opened new.opened opened then.opened;
  names_stay = then.names_stay ∙ first.names_stay;
  slots = λ k. then.slots k ∙ first.slots k;
  short = λ enough. then.short enough ∙ first.short enough;
  later = never_falls a b c first.later then.later;
  writing = then.writing ∙ first.writing;
}
