use Rattle.std.proofs.Common.{◌-◌, ◌/◌, ◌+◌, get_or, sym, ◌∙◌, arith}
use Rattle.ots_store.specs.Places.{key_at}
use Rattle.ots_store.proofs.Keys.{before_chain, after_chain}
use Rattle.ots_store.proofs.index.first_from.Goals as goal

pub loop-low-preserved-then-is_before : goal.loop-low-preserved-then-is_before
loop-low-preserved-then-is_before c =
    let key = key_at c.args.all.now in
    let places = c.args.places.now in
    let middle = c.loop-low.low + (c.loop-low.high - c.loop-low.low) / 2 in
    record {
      ordered = omega arith;
      within = c.loop-low.invariant.within;
      before = λ j lt. before_chain (key (get_or places j 0)) (key (get_or places middle 0)) (c.args.commitment.now, c.args.place) (c.requires.rises j middle (omega arith) (omega arith)) (sym c.is_before.ensures ∙ c.if-is_before.true);
      after = c.loop-low.invariant.after;
    }

pub loop-low-preserved : goal.loop-low-preserved
loop-low-preserved c =
    let key = key_at c.args.all.now in
    let places = c.args.places.now in
    let middle = c.loop-low.low + (c.loop-low.high - c.loop-low.low) / 2 in
    record {
      ordered = omega arith;
      within = omega arith;
      before = c.loop-low.invariant.before;
      after = λ j le lt. after_chain (key (get_or places middle 0)) (key (get_or places j 0)) (c.args.commitment.now, c.args.place) (sym c.is_before.ensures ∙ c.if-is_before.false) (c.requires.rises middle j le lt);
    }
