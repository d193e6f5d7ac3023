use Rattle.std.proofs.Common.{map, take}
use Rattle.std.specs.List.{flat_map}
use Rattle.ots_archive_ask.specs.Sheet.{asks_line}
use Rattle.ots_calendar_url.specs.CalendarUrl.{text_of}
use Rattle.ots_printer.specs.Printing.{Puts}
use Rattle.ots_archive_ask.proofs.lines.put_counts.Given as goal

-- The lines of the calendars up to here were put.
abbrev pub invariant-loop-place : goal.invariant-loop-place
invariant-loop-place g l = Puts g.K.Sink.taken g.K.Sink.faults g.K.Sink.same (flat_map (asks_line l.set.requests) (map text_of (take l.place l.set.urls))) l.fn.out l.out
