use Rattle.std.proofs.Common.{[]}
use Rattle.ots_merkle.specs.declared.branch.Side.TheVariants.{Left}
use Rattle.ots_anchor.proofs.Paths.{branch_further, steps_further}
use Rattle.ots_anchor.proofs.way.add_branch.Goals as goal

pub loop-side-preserved : goal.loop-side-preserved
loop-side-preserved c =
    let w = c.loop-side in
    let all = c.items-side-items.result.now in
    record {
      ops = branch_further c.args.ops.now w.ops c.add_step.new.ops all w.side-index (Left, []) c.loop-side-test.true w.invariant.ops c.in_ok-add_step.ensures.ops;
      steps = steps_further all w.side-index (Left, []) c.loop-side-test.true w.invariant.steps c.add_step.ensures.hash;
    }
