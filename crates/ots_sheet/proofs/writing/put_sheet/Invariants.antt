use Rattle.std.proofs.Common.{◌≡◌, map, take}
use Rattle.ots_printer.specs.Printing.{Puts}
use Rattle.ots_sheet.specs.Request.{request_line, request_parts}
use Rattle.ots_sheet.specs.Sheet.{lines_text}
use Rattle.ots_sheet.proofs.writing.put_sheet.Given as goal

-- The lines of the requests up to here were put, and are in the sum.
abbrev pub invariant-loop-request : goal.invariant-loop-request
invariant-loop-request g l = record {
  put : Puts g.K.Sink.taken g.K.Sink.faults g.K.Sink.same (lines_text (map request_line (map request_parts (take l.request-index l.requests)))) l.fn.out l.out;
  sums : l.sum ≡ lines_text (map request_line (map request_parts (take l.request-index l.requests)));
}
