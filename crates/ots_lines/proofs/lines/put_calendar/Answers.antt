use Rattle.ots_printer.proofs.Pieces.{puts_as, puts_then}
use Rattle.ots_lines.proofs.lines.put_calendar.Goals as goal

pub returns : goal.returns
returns g c = puts_then (puts_then (puts_then (puts_as c.text.ensures.text c.word.ensures) c.word-2.ensures g.met.K.Sink.same_trans) c.put_outcome.ensures g.met.K.Sink.same_trans) c.word-3.ensures g.met.K.Sink.same_trans
