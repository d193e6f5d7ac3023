use Rattle.ots_printer.proofs.Pieces.{puts_then}
use Rattle.ots_client_text.proofs.lines.put_chain.Goals as goal

pub returns-in-Some : goal.returns-in-Some
returns-in-Some g c = rw c.in-Some.is (puts_then c.put_tip.ensures c.put_number.ensures g.met.K.Sink.same_trans)
