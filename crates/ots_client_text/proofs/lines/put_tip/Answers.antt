use Rattle.std.proofs.Common.{ap}
use Rattle.hex.specs.Hex.{encode_lower}
use Rattle.ots_printer.proofs.Pieces.{puts_as, puts_then}
use Rattle.ots_client_text.proofs.lines.put_tip.Goals as goal

pub returns : goal.returns
returns g c =
    let trans = g.met.K.Sink.same_trans in
    let heights = puts_then (puts_then (puts_then c.word.ensures c.number.ensures trans) c.word-2.ensures trans) c.number-2.ensures trans in
    puts_then (puts_then (puts_then heights c.word-3.ensures trans) (puts_as (ap encode_lower c.reverse.ensures.after) c.hex.ensures) trans) c.word-4.ensures trans
