use Rattle.std.proofs.Common.{arith, sym, ◌∙◌}
use Rattle.ots_canon.proofs.Orders.{same_by}
use Rattle.ots_canon.proofs.Chains.{further}
use Rattle.ots_canon.proofs.merging.steps_alike.Goals as goal

pub loop-steps-preserved : goal.loop-steps-preserved
loop-steps-preserved c =
    let test = c.loop-steps-test.true in
    let more = c.loop-steps.invariant.more in
    record {
      alike = further (sym c.is_op.ensures ∙ c.if-is_op.true) (sym c.is_op-then-is_op.ensures ∙ c.if-is_op-2.true)
          (same_by c.compare.ensures c.is_eq.ensures c.if-is_eq.true) c.loop-steps.invariant.alike;
      more = omega arith;
      few = omega arith;
    }
