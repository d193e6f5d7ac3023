use Rattle.ots_printer.proofs.Pieces.{puts_then}
use Rattle.ots_calendar_text.proofs.lines.put_tree.Goals as goal

pub returns : goal.returns
returns g c = puts_then (puts_then (puts_then c.number.ensures c.word.ensures g.met.K.Sink.same_trans) (rw c.tokens.ensures.tokens at c.put_tokens.ensures) g.met.K.Sink.same_trans) c.word-2.ensures g.met.K.Sink.same_trans
