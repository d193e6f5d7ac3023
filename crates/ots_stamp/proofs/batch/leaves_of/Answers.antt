use Rattle.std.proofs.Common.{◌++◌, ◌∷◌, [], sym, ◌∙◌}
use Rattle.ots_asking.proofs.Questions.{up_to}
use Rattle.ots_stamp.specs.Stamped.{leaf}
use Rattle.ots_stamp.proofs.batch.leaves_of.Goals as goal

pub loop-target-preserved : goal.loop-target-preserved
loop-target-preserved c =
    c.in_ok-push.ensures.items ∙ (λ i. c.loop-target.invariant i ++ c.target_leaf.ensures i ∷ [])
    ∙ sym (up_to leaf c.args.targets.now c.loop-target.target-index c.target-item.result c.loop-target-test.true c.target-item.is)
