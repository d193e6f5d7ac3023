use Rattle.std.proofs.Common.{arith}
use Rattle.ots_store.proofs.Recorded.{tip_is, no_anchor, form_tip}
use Rattle.ots_store.proofs.form.form_of.Goals as goal

pub returns-then-payload-eq48 : goal.returns-then-payload-eq48
returns-then-payload-eq48 c = (tip_is c.args.kind c.args.payload.now c.if-kind-eq-TIP.true c.if-payload-eq48.true (λ i. omega (arith, c.type_inv.payload i)), form_tip c.args.kind c.args.payload.now c.span_at.result c.if-kind-eq-TIP.true c.span_at.ensures.first c.span_at.ensures.count)

pub returns-then-kind-eq-ANCHOR : goal.returns-then-kind-eq-ANCHOR
returns-then-kind-eq-ANCHOR c = no_anchor c.args.kind c.args.payload.now c.if-kind-eq-ANCHOR.true (c.is_anchor.ensures.no c.if-is_anchor.false _)
