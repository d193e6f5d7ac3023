use Rattle.std.proofs.Common.{take, zip}
use Rattle.std.specs.List.{flat_map}
use Rattle.ots_printer.specs.Printing.{Puts}
use Rattle.ots_lines.specs.Lines.{calendar_line}
use Rattle.ots_lines.proofs.lines.put_calendars.Given as goal

-- The lines of the calendars up to here were put.
abbrev pub invariant-loop-at : goal.invariant-loop-at
invariant-loop-at g l = Puts g.K.Sink.taken g.K.Sink.faults g.K.Sink.same (flat_map calendar_line (take l.at (zip l.calendars l.outcomes))) l.fn.out l.out
