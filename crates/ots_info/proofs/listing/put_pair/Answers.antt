use Rattle.std.proofs.Common.{ap}
use Rattle.hex.specs.Hex.{encode_lower}
use Rattle.ots_printer.proofs.Pieces.{puts_as, puts_then}
use Rattle.ots_info.proofs.listing.put_pair.Goals as goal

pub returns : goal.returns
returns g c = puts_then (puts_then ((puts_as c.word_of.ensures c.word.ensures)) c.word-2.ensures g.met.K.Sink.same_trans) (puts_as (ap encode_lower c.bytes.ensures.bytes) c.hex.ensures) g.met.K.Sink.same_trans
