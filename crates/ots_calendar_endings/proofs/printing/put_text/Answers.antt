use Rattle.ots_printer.proofs.Pieces.{puts_then}
use Rattle.ots_calendar_endings.proofs.printing.put_text.Goals as goal

pub returns-in-Served : goal.returns-in-Served
returns-in-Served g c = rw c.in-Served.is (puts_then c.put_served.ensures c.put_refusal-in-Served.ensures g.met.K.Sink.same_trans)
