use Rattle.std.proofs.Common.{arith, ◌∙◌, ap, sym}
use Rattle.ots_store.specs.declared.anchor.Anchor.{Anchor}
use Rattle.std.specs.Prelude.{Some}
use Rattle.ots_store.proofs.Ranged.{found_at, found_none}
use Rattle.ots_store.proofs.ranges.find_range.Goals as goal

pub returns-then-place-anchors : goal.returns-then-place-anchors
returns-then-place-anchors c =
    ap (λ (a : Anchor). Some a) c.index-anchors-place.is
    ∙ sym (found_at 0 c.args.i c.args.anchors.now c.first_after-place.result c.index-anchors-place.result (omega arith) c.requires c.if-place-anchors.true c.first_after-place.ensures.before c.first_after-place.ensures.after)

pub returns-else-place-anchors : goal.returns-else-place-anchors
returns-else-place-anchors c = sym (found_none c.args.i c.args.anchors.now c.first_after-place.result c.if-place-anchors.false c.first_after-place.ensures.before)
