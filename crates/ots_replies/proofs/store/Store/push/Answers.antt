use Rattle.std.proofs.Common.{arith, rules, sym, ap, subst, ◌∙◌, ◌++◌, ◌∷◌, [], List, length}
use Rattle.std.specs.List.{AllByRecursion}
use Rattle.ots_sheet.specs.Reply.{Answer}
use Rattle.ots_replies.specs.inner.Kept.{IsWithin}
use Rattle.ots_replies.proofs.Digits.{half}
use Rattle.ots_replies.proofs.Stored.{all_within, kept_more, kept_within, message_small, within_more}
use Rattle.ots_replies.proofs.store.Store.push.Goals as goal

pub overflow_cast-kept-2 : goal.overflow_cast-kept-2
overflow_cast-kept-2 c =
    let r = c.requires.right in
    let small = message_small r.0.request.kind c.args.shape.now.message.now r.0.request.message r.2.message r.1.0.long in
    omega (arith, small)

pub invariant_of-self-in_err-push : goal.invariant_of-self-in_err-push
invariant_of-self-in_err-push c =
    subst (AllByRecursion (IsWithin (length c.push_shape.new.bytes.items))) (sym c.in_err-push.ensures.items)
    (all_within _ _ c.self.inside.index.items c.push_shape.ensures.longer c.self.invariant)

pub invariant_of-self-2 : goal.invariant_of-self-2
invariant_of-self-2 c =
    let r = c.requires.right in
    subst (AllByRecursion (IsWithin (length c.push_shape.new.bytes.items))) (sym c.in_ok-push.ensures.items)
    (within_more _ c.self.inside.index.items _ (all_within _ _ c.self.inside.index.items c.push_shape.ensures.longer c.self.invariant)
    (kept_within c.self.inside.bytes.items c.push_shape.new.bytes.items r.0 _ (c.in_ok-reply.ensures.kept r.0 r.1 r.2) (search rules) r.2.kind (ap length r.2.url)
    (half c.args.shape.now.message.now r.0.request.message r.2.message)))

pub returns : goal.returns
returns c a is shows =
    kept_more c.self.inside.bytes.items c.push_shape.new.bytes.items a _ (c.in_ok-reply.ensures.kept a is shows) (search rules) shows.kind (ap length shows.url)
    (half c.args.shape.now.message.now a.request.message shows.message) c.self.inside.index.items c.push.new.self.items c.self.invariant c.in_ok-push.ensures.items
    ∙ ap (λ (z : List Answer). z ++ a ∷ []) c.self.view_is
