use Rattle.std.proofs.Common.{length}
use Rattle.ots_store.proofs.Formed.{branch_push, hashes_push}
use Rattle.ots_store.proofs.spelling.add_branch.Goals as goal

pub loop-step-preserved : goal.loop-step-preserved
loop-step-preserved c =
    let branch = c.args.branch.now in
    let i = c.loop-step.step-index in
    record {
      spelled = branch_push c.args.payload.now.items c.loop-step.payload.items c.add_step.new.payload.items (length branch) branch i _ c.loop-step-test.true c.loop-step.invariant.spelled c.in_ok-add_step.ensures.spelled;
      hashes = hashes_push branch i _ c.loop-step-test.true c.loop-step.invariant.hashes c.in_ok-add_step.ensures.hash;
    }
