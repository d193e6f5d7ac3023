use Rattle.std.proofs.Common.{arith}
use Rattle.ots_printer.proofs.Pieces.{all_taken, prefix_taken}
use Rattle.ots_sheet.proofs.Lines.{taken_prefix}
use Rattle.ots_sheet.proofs.writing.print_sheet.Goals as goal

pub returns-in-Ok-clause-whole : goal.returns-in-Ok-clause-whole
returns-in-Ok-clause-whole g c =
    all_taken c.put_sheet.ensures c.finish.ensures.puts g.met.K.Sink.same_trans c.requires.empty c.finish.ensures.empty c.in-Ok.ensures.good

pub returns-in-Ok-clause-prefix : goal.returns-in-Ok-clause-prefix
returns-in-Ok-clause-prefix g c =
    taken_prefix _ _ _
    (all_taken c.put_sheet.ensures c.finish.ensures.puts g.met.K.Sink.same_trans c.requires.empty c.finish.ensures.empty c.in-Ok.ensures.good)

pub returns-in-Err-clause-prefix : goal.returns-in-Err-clause-prefix
returns-in-Err-clause-prefix g c =
    (prefix_taken c.put_sheet.ensures c.finish.ensures.puts g.met.K.Sink.same_trans c.requires.empty c.requires.good c.in-Err.ensures.failed).1

pub returns-in-Err-clause-cause : goal.returns-in-Err-clause-cause
returns-in-Err-clause-cause g c =
    let rose = (prefix_taken c.put_sheet.ensures c.finish.ensures.puts g.met.K.Sink.same_trans c.requires.empty c.requires.good c.in-Err.ensures.failed).0 in
    let first = c.put_sheet.ensures.later in
    let second = c.finish.ensures.puts.later in
    record { later = omega (arith, first, second); failed = rose }
