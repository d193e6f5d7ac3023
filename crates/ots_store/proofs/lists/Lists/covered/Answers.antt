use Rattle.std.proofs.Common.{◌≡◌, ◌∙◌, length, sym, ap, subst, arith}
use Rattle.ots_store.specs.Held.{HeldTold}
use Rattle.ots_store.specs.Order.{anchor_end, covered_by}
use Rattle.ots_store.specs.Ranges.{RisesFrom}
use Rattle.ots_store.proofs.Ranged.{covered_is_last, some_there}
use Rattle.ots_store.proofs.lists.Lists.covered.Goals as goal

pub overflow_add-result : goal.overflow_add-result
overflow_add-result c =
    let anchors = c.kept-anchors.result.now in
    let here : anchors ≡ c.args.self.now.anchors.kept = c.kept-anchors.ensures ∙ ap (λ (h : HeldTold). h.anchors.kept) c.self.view_is in
    let rises : RisesFrom 0 anchors = subst (RisesFrom 0) (sym here) c.requires.rises in
    let last : covered_by anchors ≡ anchor_end c.index-anchors-anchors.result = covered_is_last anchors c.index-anchors-anchors.result (some_there (length anchors) (sym c.is_empty.ensures ∙ c.if-is_empty.false)) rises ∙ ap anchor_end (sym c.index-anchors-anchors.is) in
    omega (arith, last, ap covered_by here, c.requires.small)

pub returns : goal.returns
returns c =
    let anchors = c.kept-anchors.result.now in
    let here : anchors ≡ c.args.self.now.anchors.kept = c.kept-anchors.ensures ∙ ap (λ (h : HeldTold). h.anchors.kept) c.self.view_is in
    let rises : RisesFrom 0 anchors = subst (RisesFrom 0) (sym here) c.requires.rises in
    let last : covered_by anchors ≡ anchor_end c.index-anchors-anchors.result = covered_is_last anchors c.index-anchors-anchors.result (some_there (length anchors) (sym c.is_empty.ensures ∙ c.if-is_empty.false)) rises ∙ ap anchor_end (sym c.index-anchors-anchors.is) in
    sym last ∙ ap covered_by here
