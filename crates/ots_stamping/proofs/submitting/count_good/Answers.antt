use Rattle.std.proofs.Common.{[], ◌∷◌, length, ap, ◌∙◌, arith}
use Rattle.std.proofs.lemmas.List.{take_all}
use Rattle.ots_stamp.specs.Stamped.{good_trees}
use Rattle.ots_stamping.proofs.Counting.{count_next}
use Rattle.ots_stamping.proofs.submitting.count_good.Goals as goal

pub loop-outcome-preserved : goal.loop-outcome-preserved
loop-outcome-preserved c =
    let most = c.count_one-count.ensures.most in
    let before = c.loop-outcome.invariant.1 in
    (count_next c.args.outcomes.now c.loop-outcome.outcome-index c.outcome-item.result _ _ c.loop-outcome-test.true c.loop-outcome.invariant.0 (c.count_one-count.ensures.good ∙ ap (λ x. length (good_trees (x ∷ []))) c.outcome-item.is), omega (arith, most, before))

pub returns : goal.returns
returns c = c.loop-outcome.invariant.0 ∙ ap (λ xs. length (good_trees xs)) (take_all c.loop-outcome.outcome-index c.args.outcomes.now c.loop-outcome-test.false)
