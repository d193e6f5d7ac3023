use Rattle.std.proofs.Common.{arith, rules}
use Rattle.ots_printer.proofs.Hexadecimal.{encode-nothing, encode-take}
use Rattle.ots_printer.proofs.Pieces.{puts_as, puts_nothing, puts_then}
use Rattle.ots_printer.proofs.printer.Printer.hex.Goals as goal

pub loop-done-init : goal.loop-done-init
loop-done-init g c = record {
  in_range = omega arith;
  put = puts_as encode-nothing (puts_nothing g.met.K.Sink.same_refl _);
}

pub loop-done-preserved : goal.loop-done-preserved
loop-done-preserved g c = record {
  in_range = search rules;
  put = puts_as (encode-take c.loop-done.done c.min-end.result c.args.bytes.now (search rules))
      (puts_then c.loop-done.invariant.put c.piece_of_hex.ensures g.met.K.Sink.same_trans);
}
