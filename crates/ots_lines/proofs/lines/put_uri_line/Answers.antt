use Rattle.ots_printer.proofs.Pieces.{puts_then}
use Rattle.ots_lines.proofs.lines.put_uri_line.Goals as goal

pub returns : goal.returns
returns g c = puts_then (puts_then (puts_then c.put_uri.ensures c.word.ensures g.met.K.Sink.same_trans) c.put_outcome.ensures g.met.K.Sink.same_trans) c.word-2.ensures g.met.K.Sink.same_trans
