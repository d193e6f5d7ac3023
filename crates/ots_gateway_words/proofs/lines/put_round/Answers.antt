use Rattle.ots_printer.proofs.Pieces.{puts_then}
use Rattle.ots_gateway_words.proofs.lines.put_round.Goals as goal

pub returns : goal.returns
returns g c = puts_then c.put_outcomes.ensures c.put_number.ensures g.met.K.Sink.same_trans
