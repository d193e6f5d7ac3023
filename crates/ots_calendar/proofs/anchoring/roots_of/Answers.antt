use Rattle.std.proofs.Common.{◌++◌, ◌∷◌, [], sym, ap, get_or, ◌∙◌, List, ℕ}
use Rattle.ots_store.specs.declared.tip.Tip.{Tip}
use Rattle.ots_calendar.proofs.Climbing.{mapped_more}
use Rattle.ots_calendar.proofs.anchoring.roots_of.Goals as goal

pub loop-tip-preserved : goal.loop-tip-preserved
loop-tip-preserved c =
    let none : Tip = record { first = 0; count = 0; root = [] } in
    c.in_ok-push.ensures.items ∙ ap (λ (l : List (List ℕ)). l ++ (get_or c.args.tips.now c.loop-tip.tip-index none).root ∷ []) c.loop-tip.invariant
    ∙ sym (mapped_more (λ (t : Tip). t.root) c.args.tips.now c.loop-tip.tip-index none c.loop-tip-test.true)
