use Rattle.ots_printer.proofs.Pieces.{puts_then}
use Rattle.ots_printer.proofs.printer.Printer.bytes.Goals as goal

pub returns-then-bytes-le-ROOM : goal.returns-then-bytes-le-ROOM
returns-then-bytes-le-ROOM g c = puts_then c.make_room.ensures.puts c.hold.ensures g.met.K.Sink.same_trans

pub returns-else-bytes-le-ROOM : goal.returns-else-bytes-le-ROOM
returns-else-bytes-le-ROOM g c = puts_then c.make_room.ensures.puts c.write.ensures g.met.K.Sink.same_trans
