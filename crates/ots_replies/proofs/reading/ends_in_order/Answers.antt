use Rattle.std.proofs.Common.{refl, sym, ◌∙◌, arith}
use Rattle.ots_replies.proofs.Digits.{no_truth}
use Rattle.ots_replies.proofs.Ordered.{last_order, two_last}
use Rattle.ots_replies.proofs.reading.ends_in_order.Goals as goal

pub returns-in-Less : goal.returns-in-Less
returns-in-Less c = (
  λ yes before a b is.
      sym (last_order c.args.store.now before a b c.len-count.result _ _ c.order.result is c.len-count.ensures c.request-before.ensures c.request.ensures c.order.ensures) ∙ c.in-Less.is,
  λ all. refl,
)

pub returns-in_default : goal.returns-in_default
returns-in_default c = (
  λ yes. absurd (no_truth yes),
  λ all.
      let two = two_last c.args.store.now (let many = c.if-count-lt2.false in let count = c.len-count.ensures in omega (arith, many, count)) in
      absurd (c.in_default.not-Less (last_order c.args.store.now two.before two.a two.b c.len-count.result _ _ c.order.result two.is c.len-count.ensures c.request-before.ensures
      c.request.ensures c.order.ensures ∙ all two.before two.a two.b two.is)),
)
