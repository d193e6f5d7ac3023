use Rattle.ots_printer.proofs.Pieces.{puts_as, puts_then}
use Rattle.ots_archive_text.proofs.Shown.{one_more}
use Rattle.ots_archive_text.proofs.names.put_escaped.Goals as goal

pub loop-byte-preserved : goal.loop-byte-preserved
loop-byte-preserved g c =
    puts_as (one_more c.args.name.now c.loop-byte.byte-index _ c.loop-byte-test.true) (puts_then c.loop-byte.invariant c.put_byte.ensures g.met.K.Sink.same_trans)
