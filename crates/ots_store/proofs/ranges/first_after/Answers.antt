use Rattle.std.proofs.Common.{◌≤◌, ◌<◌, ◌-◌, ◌/◌, ℕ, ◌+◌, suc, take, subst, arith, get_or, length, ◌≡◌}
use Rattle.std.specs.List.{AllByRecursion}
use Rattle.ots_store.specs.declared.anchor.Anchor.{Anchor}
use Rattle.ots_store.specs.Order.{anchor_end}
use Rattle.ots_store.specs.Ranges.{EndsBy}
use Rattle.ots_store.proofs.Ranged.{up_to}
use Rattle.ots_store.proofs.ranges.first_after.Goals as goal

pub loop-low-preserved-then-ends_by : goal.loop-low-preserved-then-ends_by
loop-low-preserved-then-ends_by c =
    let anchors = c.args.anchors.now in
    let middle = c.loop-low.low + (c.loop-low.high - c.loop-low.low) / 2 in
    let there : middle < length anchors = omega arith in
    let one : suc middle ≡ middle + 1 = omega arith in
    let ends : anchor_end (get_or anchors middle c.index-anchors-middle.result) ≤ c.args.i =
    subst (λ (a : Anchor). anchor_end a ≤ c.args.i) c.index-anchors-middle.is (c.ends_by.ensures.yes c.if-ends_by.true) in
    record {
      ordered = omega arith;
      within = c.loop-low.invariant.within;
      before = subst (λ (n : ℕ). AllByRecursion (EndsBy c.args.i) (take n anchors)) one (up_to 0 c.args.i anchors middle c.index-anchors-middle.result there c.requires ends);
      after = c.loop-low.invariant.after;
    }
