use Rattle.ots_printer.proofs.Pieces.{puts_then}
use Rattle.ots_client_text.proofs.refusal.put_pairs.Goals as goal

pub returns : goal.returns
returns g c = puts_then (puts_then (puts_then (puts_then c.word.ensures c.put_pair.ensures g.met.K.Sink.same_trans) c.word-2.ensures g.met.K.Sink.same_trans) c.put_pair-2.ensures g.met.K.Sink.same_trans) c.word-3.ensures g.met.K.Sink.same_trans
