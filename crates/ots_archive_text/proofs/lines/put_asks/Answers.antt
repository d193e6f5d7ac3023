use Rattle.ots_printer.proofs.Pieces.{puts_then}
use Rattle.ots_archive_text.proofs.lines.put_asks.Goals as goal

pub returns : goal.returns
returns g c = puts_then (puts_then (puts_then c.word.ensures c.word-2.ensures g.met.K.Sink.same_trans) c.number.ensures g.met.K.Sink.same_trans) c.word-3.ensures g.met.K.Sink.same_trans
