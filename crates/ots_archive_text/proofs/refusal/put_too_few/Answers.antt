use Rattle.ots_printer.proofs.Pieces.{puts_then}
use Rattle.ots_archive_text.proofs.refusal.put_too_few.Goals as goal

pub returns : goal.returns
returns g c =
    let trans = g.met.K.Sink.same_trans in
    let counts = puts_then (puts_then (puts_then c.word.ensures c.number.ensures trans) c.word-2.ensures trans) c.number-2.ensures trans in
    puts_then (puts_then (puts_then counts c.word-3.ensures trans) c.put_shown.ensures trans) c.word-4.ensures trans
