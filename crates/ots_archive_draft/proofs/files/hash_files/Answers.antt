use Rattle.std.proofs.Common.{[], refl}
use Rattle.ots_archive_draft.proofs.Turns.{hashes_ends, hashes_next}
use Rattle.ots_archive_steps.specs.Ends.{IfRoom}
use Rattle.ots_archive_draft.proofs.files.hash_files.Goals as goal

pub returns-in-Err-push-clause-hashes : goal.returns-in-Err-push-clause-hashes
returns-in-Err-push-clause-hashes g c =
    hashes_ends c.args.names.now c.loop-name.name-index (record { ref_ptr = (0, 0); now = [] }) c.loop-name-test.true _ _ _ _ c.loop-name.invariant _ (IfRoom.after c.in-Ok.digest c.in-Ok.ensures refl)

pub returns-in-Err-clause-hashes : goal.returns-in-Err-clause-hashes
returns-in-Err-clause-hashes g c =
    hashes_ends c.args.names.now c.loop-name.name-index (record { ref_ptr = (0, 0); now = [] }) c.loop-name-test.true _ _ _ _ c.loop-name.invariant _ (IfRoom.done c.in-Err.ensures)

pub loop-name-preserved : goal.loop-name-preserved
loop-name-preserved g c = rw c.in-Ok-push.ensures.items
    (hashes_next c.args.names.now c.loop-name.name-index (record { ref_ptr = (0, 0); now = [] }) c.loop-name-test.true _ _ _ _ c.loop-name.invariant _ c.in-Ok.ensures)
