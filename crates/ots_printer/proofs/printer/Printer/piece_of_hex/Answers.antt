use Rattle.ots_printer.proofs.Pieces.{puts_then}
use Rattle.ots_printer.proofs.printer.Printer.piece_of_hex.Goals as goal

pub returns : goal.returns
returns g c = puts_then c.make_room.ensures.puts c.hold_hex.ensures g.met.K.Sink.same_trans
