use Rattle.ots_printer.proofs.Pieces.{puts_as, puts_then}
use Rattle.ots_archive_text.proofs.refusal.put_fault.Goals as goal

pub returns : goal.returns
returns g c =
    let trans = g.met.K.Sink.same_trans in
    let place = puts_then (puts_then (puts_then c.word.ensures c.put_shown.ensures trans) c.word-2.ensures trans) c.number.ensures trans in
    puts_then (puts_then (puts_then place c.word-3.ensures trans) (puts_as c.words.ensures c.word-4.ensures) trans) c.word-5.ensures trans
