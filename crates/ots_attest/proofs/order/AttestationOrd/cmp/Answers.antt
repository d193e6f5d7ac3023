use Rattle.std.proofs.Common.{refl, sym, ◌∙◌}
use Rattle.ots_attest.proofs.Keys.{equal_kinds, by_held, by_kind}
use Rattle.ots_attest.proofs.order.AttestationOrd.cmp.Goals as goal

pub compare_held-requires : goal.compare_held-requires
compare_held-requires c = equal_kinds _ _ (rw (← c.kind.ensures.kind, ← c.kind-2.ensures.kind) c.in-Equal.ensures)

pub returns-in-Equal : goal.returns-in-Equal
returns-in-Equal c =
    c.compare_held.ensures
    ∙ by_held c.args.self.now c.args.other.now (c.kind.ensures.eight ∙ sym c.kind-2.ensures.eight) (rw (← c.kind.ensures.kind, ← c.kind-2.ensures.kind) c.in-Equal.ensures)

pub returns-in_default : goal.returns-in_default
returns-in_default c =
    let is = c.cmp.ensures ∙ rw (c.kind.ensures.kind, c.kind-2.ensures.kind) refl in
    is ∙ by_kind c.args.self.now c.args.other.now (c.kind.ensures.eight ∙ sym c.kind-2.ensures.eight) (λ e. c.in_default.not-Equal (is ∙ e))
