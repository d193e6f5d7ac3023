use Rattle.ots_archive_draft.proofs.Turns.{taken_next}
use Rattle.ots_archive_draft.proofs.files.digests_of_lines.Goals as goal

pub loop-index-preserved : goal.loop-index-preserved
loop-index-preserved c = rw c.in_ok-push.ensures.items
    (taken_next c.args.sums.now c.loop-index.index c.digest_of_line.result c.loop-index.digests.items c.digest_of_line.ensures.at c.digest_of_line.ensures.long c.loop-index.invariant)
