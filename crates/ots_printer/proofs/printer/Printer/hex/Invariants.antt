use Rattle.std.proofs.Common.{length, ◌-◌, ◌≤◌, take}
use Rattle.hex.specs.Hex.{encode_lower}
use Rattle.ots_printer.specs.Printing.{Puts}
use Rattle.ots_printer.proofs.printer.Printer.hex.Given as goal

-- The digits of the bytes up to here were put.
abbrev pub invariant-loop-done : goal.invariant-loop-done
invariant-loop-done g l = record {
  in_range : l.done ≤ length l.bytes;
  put : Puts g.K.Sink.taken g.K.Sink.faults g.K.Sink.same (encode_lower (take l.done l.bytes)) l.fn.self l.self;
}

abbrev pub decreases-loop-done : goal.decreases-loop-done
decreases-loop-done g l = length l.bytes - l.done
