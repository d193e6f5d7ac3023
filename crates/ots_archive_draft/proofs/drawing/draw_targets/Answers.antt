use Rattle.std.proofs.Common.{refl}
use Rattle.ots_archive_draft.proofs.Turns.{draws_ends, draws_next}
use Rattle.ots_archive_steps.specs.Ends.{IfRoom}
use Rattle.ots_archive_draft.proofs.drawing.draw_targets.Goals as goal

pub returns-in-Err-push-clause-draws : goal.returns-in-Err-push-clause-draws
returns-in-Err-push-clause-draws g c =
    draws_ends c.args.digests.now c.loop-digest.digest-index c.digest-item.result c.loop-digest-test.true c.digest-item.is _ _ _ _ c.loop-digest.invariant _
    (IfRoom.after c.in-Ok.target c.in-Ok.ensures refl)

pub returns-in-Err-clause-draws : goal.returns-in-Err-clause-draws
returns-in-Err-clause-draws g c =
    draws_ends c.args.digests.now c.loop-digest.digest-index c.digest-item.result c.loop-digest-test.true c.digest-item.is _ _ _ _ c.loop-digest.invariant _ (IfRoom.done c.in-Err.ensures)

pub loop-digest-preserved : goal.loop-digest-preserved
loop-digest-preserved g c = rw c.in-Ok-push.ensures.items
    (draws_next c.args.digests.now c.loop-digest.digest-index c.digest-item.result c.loop-digest-test.true c.digest-item.is _ _ _ _ c.loop-digest.invariant _ c.in-Ok.ensures)
