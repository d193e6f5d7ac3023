use Rattle.ots_printer.proofs.Pieces.{puts_as, puts_then}
use Rattle.ots_sheet.proofs.Lines.{line_pieces}
use Rattle.ots_sheet.proofs.writing.put_request.Goals as goal

pub returns-clause-puts : goal.returns-clause-puts
returns-clause-puts g c =
    let t = g.met.K.Sink.same_trans in
    puts_as (line_pieces _ _ _ _ c.word.ensures)
    (puts_then (puts_then (puts_then (puts_then (puts_then c.put.ensures.puts c.put-2.ensures.puts t) c.put-3.ensures.puts t) c.put-4.ensures.puts t) c.hex.ensures t)
    c.put-5.ensures.puts t)
