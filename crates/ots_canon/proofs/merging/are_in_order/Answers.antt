use Rattle.std.proofs.Common.{arith, sym, ap, ◌∙◌}
use Rattle.std.specs.Ordering.{is_lt}
use Rattle.ots_canon.proofs.Runs.{in_order_more}
use Rattle.ots_canon.proofs.merging.are_in_order.Goals as goal

pub loop-at-preserved : goal.loop-at-preserved
loop-at-preserved c =
    let some = c.loop-at.invariant.some in
    record { some = omega arith; sorted = in_order_more c.args.tokens.now c.args.places.now some c.loop-at-test.true (ap is_lt (sym c.compare.ensures) ∙ sym c.is_lt.ensures ∙ c.if-is_lt.false) c.loop-at.invariant.sorted }
