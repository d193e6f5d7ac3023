use Rattle.std.proofs.Common.{◌≡◌, ◌∙◌, List, length, refl, subst, sym, true}
use Rattle.std.specs.List.{AllByRecursion}
use Rattle.ots_canon.specs.Canonical.{IsCanonOf}
use Rattle.ots_draft.proofs.Waiting.{draft_found, message_long, rest_is, rest_waits}
use Rattle.ots_draft.specs.Draft.{IsDraft}
use Rattle.ots_draft.specs.inner.Reading.{MayWait, leading}
use Rattle.ots_ops.specs.declared.op.Op.{Op}
use Rattle.ots_tree.specs.Sound.{length_after}
use Rattle.ots_tree.specs.declared.token.Token.{Token}
use Rattle.ots_draft.proofs.reading.draft_operations.Goals as goal

pub returns-then-not-all_wait-clause-none : goal.returns-then-not-all_wait-clause-none
returns-then-not-all_wait-clause-none c = λ _ ops draft.
    let proof = c.args.proof.now in
    let ts : List Token = c.tokens-tokens.result.now in
    let canon : IsCanonOf proof.tree ts = subst (IsCanonOf proof.tree) (sym c.tokens-tokens.ensures.tokens) c.in_ok-form.ensures in
    let rest = rest_is c.items.result.now ts _ (c.items.ensures ∙ c.in_ok-ops.ensures.operations) refl in
    let yes : c.all_wait.result ≡ true = c.all_wait.ensures.1 (subst (AllByRecursion MayWait) (sym rest) (rest_waits proof ops ts canon draft)) in
    absurd cc

pub returns-then-not-make_message-clause-none : goal.returns-then-not-make_message-clause-none
returns-then-not-make_message-clause-none c = λ _ ops draft.
    let proof = c.args.proof.now in
    let ts : List Token = c.tokens-tokens.result.now in
    let canon : IsCanonOf proof.tree ts = subst (IsCanonOf proof.tree) (sym c.tokens-tokens.ensures.tokens) c.in_ok-form.ensures in
    let same : c.items-2.result.now ≡ leading ts = c.items-2.ensures ∙ c.in_ok-ops.ensures.operations in
    let yes : c.make_message.result ≡ true =
    c.make_message.ensures.1 ((λ i. length_after (same i) (length (c.bytes.ensures.bytes i))) ∙ message_long proof ops ts canon draft) in
    absurd cc

pub returns-clause-some : goal.returns-clause-some
returns-clause-some c =
    let proof = c.args.proof.now in
    let ts : List Token = c.tokens-tokens.result.now in
    let canon : IsCanonOf proof.tree ts = subst (IsCanonOf proof.tree) (sym c.tokens-tokens.ensures.tokens) c.in_ok-form.ensures in
    let same : c.items-2.result.now ≡ leading ts = c.items-2.ensures ∙ c.in_ok-ops.ensures.operations in
    let rest = rest_is c.items.result.now ts _ (c.items.ensures ∙ c.in_ok-ops.ensures.operations) refl in
    subst (IsDraft proof) (sym c.in_ok-ops.ensures.operations)
    (draft_found proof ts canon (subst (AllByRecursion MayWait) rest (c.all_wait.ensures.0 c.if-not-all_wait.false))
    ((λ i. length_after (sym same i) (length (sym c.bytes.ensures.bytes i))) ∙ c.make_message.ensures.0 c.if-not-make_message.false))
