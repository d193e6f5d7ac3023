use Rattle.std.proofs.Common.{refl}
use Rattle.ots_printer.proofs.Pieces.{puts_then}
use Rattle.ots_archive_ask.proofs.lines.AskedTextPrintedText.put.Goals as goal

pub returns-clause-put : goal.returns-clause-put
returns-clause-put g c = (_, refl, puts_then c.put_counts.ensures c.put_skipped.ensures g.met.K.Sink.same_trans)
