use Rattle.ots_printer.proofs.Pieces.{puts_then}
use Rattle.ots_client_text.proofs.lines.put_sample.Goals as goal

pub returns : goal.returns
returns g c = puts_then (puts_then (puts_then c.put_number.ensures c.put_number-2.ensures g.met.K.Sink.same_trans) c.put_digest.ensures g.met.K.Sink.same_trans) c.put_verdict.ensures g.met.K.Sink.same_trans
