use Rattle.ots_printer.proofs.Pieces.{puts_then}
use Rattle.ots_lines.proofs.lines.put_status.Goals as goal

pub returns : goal.returns
returns g c = puts_then c.word.ensures c.number.ensures g.met.K.Sink.same_trans
