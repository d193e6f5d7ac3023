use Rattle.std.proofs.Common.{map, take}
use Rattle.std.specs.List.{flat_map}
use Rattle.ots_archive_counts.specs.Counts.{counted}
use Rattle.ots_archive_take.specs.Counting.{counts_line}
use Rattle.ots_printer.specs.Printing.{Puts}
use Rattle.ots_archive_take.proofs.counting.put_counts.Given as goal

-- The lines of the first calendars were put.
abbrev pub invariant-loop-one : goal.invariant-loop-one
invariant-loop-one g l = Puts g.K.Sink.taken g.K.Sink.faults g.K.Sink.same (flat_map counts_line (map counted (take l.one-index l.list))) l.fn.out l.out
