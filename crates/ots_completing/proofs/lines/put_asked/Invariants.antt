use Rattle.std.proofs.Common.{take}
use Rattle.std.specs.List.{flat_map}
use Rattle.ots_printer.specs.Printing.{Puts}
use Rattle.ots_completing.specs.Upgrade.{asked_line}
use Rattle.ots_completing.proofs.lines.put_asked.Given as goal

-- The lines of the pairs up to here were put.
abbrev pub invariant-loop-i : goal.invariant-loop-i
invariant-loop-i g l = Puts g.K.Sink.taken g.K.Sink.faults g.K.Sink.same (flat_map asked_line (take l.i l.asked)) l.fn.out l.out
