-- What a sheet of replies has of each calendar is told.
use Rattle.std.specs.Prelude.{◌≡◌, ℕ, List}
use Rattle.std.specs.List.{flat_map}
use Rattle.ots_archive_counts.specs.Counts.{AreCounts, Counted}
use Rattle.ots_archive_steps.specs.Ends.{IfRoom}
use Rattle.ots_archive_steps.specs.Printing.{Tells}
use Rattle.ots_archive_text.specs.Lines.{replies_text}
use Rattle.ots_archive_text.specs.declared.status.ArchiveStatus.{ArchiveStatus}
use Rattle.ots_archive_world.specs.Steps.{Step}
use Rattle.ots_sheet.specs.Reply.{Answer}

abbrev pub counts_line : Counted → List ℕ
counts_line c = replies_text c.address c.counts

-- a line for each
abbrev pub counts_text : List Counted → List ℕ
counts_text list = flat_map counts_line list

-- The lines of all calendars of the sheet.
abbrev pub TellsAll : List Answer → Step (Unit {0}) ArchiveStatus
TellsAll answers old new r = (list : List Counted) × AreCounts answers list
    × Tells (λ text. text ≡ counts_text list) old new r

abbrev pub TellsCounts : List Answer → Step (Unit {0}) ArchiveStatus
TellsCounts answers = IfRoom (TellsAll answers)
