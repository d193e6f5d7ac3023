use Rattle.ots_printer.proofs.Pieces.{puts_then}
use Rattle.ots_info.proofs.listing.put_with_hex.Goals as goal

pub returns : goal.returns
returns g c = puts_then c.word.ensures c.hex.ensures g.met.K.Sink.same_trans
