use Rattle.ots_printer.proofs.Pieces.{puts_then}
use Rattle.ots_archive_text.proofs.lines.put_replies.Goals as goal

pub returns : goal.returns
returns g c =
    let trans = g.met.K.Sink.same_trans in
    let ok = puts_then (puts_then c.bytes.ensures c.word.ensures trans) c.number.ensures trans in
    let no = puts_then (puts_then ok c.word-2.ensures trans) c.number-2.ensures trans in
    puts_then (puts_then (puts_then no c.word-3.ensures trans) c.number-3.ensures trans) c.word-4.ensures trans
