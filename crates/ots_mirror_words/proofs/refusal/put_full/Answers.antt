use Rattle.ots_printer.proofs.Pieces.{puts_then}
use Rattle.ots_mirror_words.proofs.refusal.put_full.Goals as goal

pub returns : goal.returns
returns g c = puts_then (puts_then (puts_then (puts_then c.word.ensures c.number.ensures g.met.K.Sink.same_trans) c.word-2.ensures g.met.K.Sink.same_trans) c.number-2.ensures g.met.K.Sink.same_trans) c.word-3.ensures g.met.K.Sink.same_trans
