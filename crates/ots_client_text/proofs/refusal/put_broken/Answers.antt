use Rattle.ots_printer.proofs.Pieces.{puts_as, puts_then}
use Rattle.ots_client_text.proofs.refusal.put_broken.Goals as goal

pub returns : goal.returns
returns g c = puts_then (puts_then (puts_then (puts_then c.word.ensures c.number.ensures g.met.K.Sink.same_trans) c.word-2.ensures g.met.K.Sink.same_trans) (puts_as c.fault_words.ensures c.word-3.ensures) g.met.K.Sink.same_trans) c.word-4.ensures g.met.K.Sink.same_trans
