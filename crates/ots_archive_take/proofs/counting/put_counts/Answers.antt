use Rattle.std.proofs.Common.{[]}
use Rattle.ots_printer.proofs.Pieces.{puts_as, puts_then}
use Rattle.ots_archive_take.proofs.Lines.{line_more}
use Rattle.ots_archive_take.proofs.counting.put_counts.Goals as goal

pub loop-one-preserved : goal.loop-one-preserved
loop-one-preserved g c = puts_as (line_more c.args.list.now c.loop-one.one-index (record { address = record { ref_ptr = (0, 0); now = [] }; counts = record { ok = 0; no = 0; bad = 0 } }) c.loop-one-test.true) (puts_then c.loop-one.invariant c.put_replies.ensures g.met.K.Sink.same_trans)
