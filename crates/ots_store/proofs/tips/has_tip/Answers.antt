use Rattle.std.proofs.Common.{◌≡◌, ◌<◌, ◌-◌, ◌/◌, ℕ, ◌+◌, suc, take, drop, subst, sym, arith, length, take-append-drop}
use Rattle.ots_store.specs.Order.{HasSpan}
use Rattle.ots_store.proofs.Tipped.{has_at, has_neither}
use Rattle.ots_store.proofs.Rising.{none_up_to, none_from}
use Rattle.ots_store.proofs.tips.has_tip.Goals as goal

pub loop-low-preserved-then-precedes : goal.loop-low-preserved-then-precedes
loop-low-preserved-then-precedes c =
    let first = c.args.span.now.first in
    let count = c.args.span.now.count in
    let tips = c.args.tips.now in
    let middle = c.loop-low.low + (c.loop-low.high - c.loop-low.low) / 2 in
    let there : middle < length tips = omega arith in
    let one : suc middle ≡ middle + 1 = omega arith in
    record {
      ordered = omega arith;
      within = c.loop-low.invariant.within;
      before = λ rise has.
          none_up_to 0 0 first count tips middle _ there rise (c.precedes.ensures.yes c.if-precedes.true) (subst (λ (n : ℕ). HasSpan first count (take n tips)) (sym one) has);
      after = c.loop-low.invariant.after;
    }

pub loop-low-preserved : goal.loop-low-preserved
loop-low-preserved c =
    let first = c.args.span.now.first in
    let count = c.args.span.now.count in
    let tips = c.args.tips.now in
    let middle = c.loop-low.low + (c.loop-low.high - c.loop-low.low) / 2 in
    let there : middle < length tips = omega arith in
    record {
      ordered = omega arith;
      within = omega arith;
      before = c.loop-low.invariant.before;
      after = λ rise has. none_from 0 0 first count tips middle _ there rise (c.precedes.ensures.no c.if-precedes.false) (c.is_of.ensures.no c.if-is_of.false) has;
    }

pub returns-then-is_of-clause-yes : goal.returns-then-is_of-clause-yes
returns-then-is_of-clause-yes c is =
    let middle = c.loop-low.low + (c.loop-low.high - c.loop-low.low) / 2 in
    let there : middle < length c.args.tips.now = omega arith in
    let same = c.is_of.ensures.yes c.if-is_of.true in
    has_at c.args.span.now.first c.args.span.now.count c.args.tips.now middle _ there same.0 same.1

pub returns-clause-no : goal.returns-clause-no
returns-clause-no c is rise has =
    let first = c.args.span.now.first in
    let count = c.args.span.now.count in
    let tips = c.args.tips.now in
    let low = c.loop-low.low in
    let met : c.loop-low.high ≡ low = omega arith in
    let after : HasSpan first count (drop low tips) → ⊥ = subst (λ (n : ℕ). HasSpan first count (drop n tips) → ⊥) met (c.loop-low.invariant.after rise) in
    has_neither first count (take low tips) (drop low tips) (c.loop-low.invariant.before rise) after (subst (HasSpan first count) (sym (take-append-drop low tips)) has)
