use Rattle.std.proofs.Common.{take}
use Rattle.ots_printer.specs.Printing.{Puts}
use Rattle.ots_sums.specs.Names.{escaped}
use Rattle.ots_archive_text.proofs.names.put_escaped.Given as goal

-- The bytes up to here were put.
abbrev pub invariant-loop-byte : goal.invariant-loop-byte
invariant-loop-byte g l = Puts g.K.Sink.taken g.K.Sink.faults g.K.Sink.same (escaped (take l.byte-index l.name)) l.fn.out l.out
