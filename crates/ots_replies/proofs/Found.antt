-- A request is found by halves.
use Rattle.std.proofs.Common.{◌≡◌, ◌<◌, ◌≤◌, ◌+◌, ℕ, List, length, get_or, refl, sym, ap, subst, ◌∙◌, arith, inl, inr}
use Rattle.std.specs.Cmp.{IsTotalOrder}
use Rattle.std.specs.Cmp.Lexicographic.{bytes_decides, nat_list_cmp_total, slice_cmp, texts_ties}
use Rattle.std.specs.Ordering.{is_eq, nat_cmp, ordering_reverse, ordering_then}
use Rattle.std.specs.declared.cmp.Ordering.{Ordering}
use Rattle.std.specs.declared.cmp.Ordering.TheVariants.{Less, Equal, Greater}
use Rattle.std.proofs.lemmas.Cmp.{on_total, then_total, tied_itself}
use Rattle.ots_sheet.specs.declared.request.Kind.{Kind}
use Rattle.ots_sheet.specs.declared.request.Kind.TheVariants.{Get, Post}
use Rattle.ots_sheet.specs.Order.{kind_order, request_order}
use Rattle.ots_sheet.specs.Request.{RequestParts}
use Rattle.ots_sheet.specs.Reply.{Answer, ReplyParts}
use Rattle.ots_sheet.specs.Sheet.{AreAnswers}
use Rattle.ots_sheet.proofs.Words.{le_or_lt}
use Rattle.ots_replies.specs.Replies.{HasReply}
use Rattle.ots_replies.proofs.Ordered.{parts_order}

-- ---- the order is total

kind_total : IsTotalOrder kind_order
kind_total = record { antisymm = back; trans = chain; congr = alike }
  where
    back : (x y : Kind) → kind_order x y ≡ ordering_reverse (kind_order y x)
    back Get Get = refl
    back Get Post = refl
    back Post Get = refl
    back Post Post = refl

    chain : (x y z : Kind) → kind_order x y ≡ Less → kind_order y z ≡ Less → kind_order x z ≡ Less
    chain Get Get z p q = absurd cc
    chain Get Post Get p q = absurd cc
    chain Get Post Post p q = absurd cc
    chain Post Get z p q = absurd cc
    chain Post Post z p q = absurd cc

    alike : (x y z : Kind) → kind_order x y ≡ Equal → kind_order x z ≡ kind_order y z
    alike Get Get z p = refl
    alike Get Post z p = absurd cc
    alike Post Get z p = absurd cc
    alike Post Post z p = refl

total : IsTotalOrder request_order
total =
    then_total (on_total (λ (r : RequestParts). r.kind) kind_total)
    (then_total (on_total (λ (r : RequestParts). r.url) nat_list_cmp_total) (on_total (λ (r : RequestParts). r.message) nat_list_cmp_total))

both_equal : (o p : Ordering) → ordering_then o p ≡ Equal → (o ≡ Equal) × (p ≡ Equal)
both_equal Less p is = absurd cc
both_equal Equal p is = (refl, is)
both_equal Greater p is = absurd cc

kind_equal : (j k : Kind) → kind_order j k ≡ Equal → j ≡ k
kind_equal Get Get is = refl
kind_equal Get Post is = absurd cc
kind_equal Post Get is = absurd cc
kind_equal Post Post is = refl

text_equal : (xs ys : List ℕ) → slice_cmp nat_cmp xs ys ≡ Equal → xs ≡ ys
text_equal xs ys is = (bytes_decides xs ys).0 (texts_ties xs ys ∙ ap is_eq is)

equal : (p q : RequestParts) → request_order p q ≡ Equal → p ≡ q
equal p q is =
    let kinds = both_equal (kind_order p.kind q.kind) _ is in
    let texts = both_equal (slice_cmp nat_cmp p.url q.url) (slice_cmp nat_cmp p.message q.message) kinds.1 in
    let kind = kind_equal p.kind q.kind kinds.0 in
    let url = text_equal p.url q.url texts.0 in
    let message = text_equal p.message q.message texts.1 in
    λ i. record { kind = kind i; url = url i; message = message i }

turned : (p q : RequestParts) (o : Ordering) → request_order p q ≡ o → request_order q p ≡ ordering_reverse o
turned p q o is = total.antisymm q p ∙ ap ordering_reverse is

-- ---- what a comparison with the one in the middle says of the others

module _ (xs : List Answer) (good : AreAnswers xs) (target : RequestParts) (middle : ℕ) (within : middle < length xs) (shown : RequestParts)
    (at : (d : Answer) → shown ≡ (get_or xs middle d).request) where
  here : (d : Answer) (o p : Ordering) → p ≡ request_order shown target → p ≡ o → request_order (get_or xs middle d).request target ≡ o
  here d o p tested is = ap (λ (z : RequestParts). request_order z target) (sym (at d)) ∙ sym tested ∙ is

  pub less_before : (p : Ordering) → p ≡ request_order shown target → p ≡ Less → (d : Answer) (k : ℕ) → k < middle + 1
      → request_order (get_or xs k d).request target ≡ Less
  less_before p tested is d k less = elim (le_or_lt middle k) [
    | inr below ↦ total.trans (get_or xs k d).request (get_or xs middle d).request target (parts_order xs good d k middle below within) (here d Less p tested is)
    | inl same ↦ let one : middle ≡ k = omega (arith, same, less) in
        subst (λ (n : ℕ). request_order (get_or xs n d).request target ≡ Less) one (here d Less p tested is)
  ]

  pub greater_after : (p : Ordering) → p ≡ request_order shown target → p ≡ Greater → (d : Answer) (k : ℕ) → middle ≤ k → k < length xs
      → request_order (get_or xs k d).request target ≡ Greater
  greater_after p tested is d k le inside = elim (le_or_lt k middle) [
    | inr above ↦
        turned target (get_or xs k d).request Less
        (total.trans target (get_or xs middle d).request (get_or xs k d).request (turned (get_or xs middle d).request target Greater (here d Greater p tested is))
        (parts_order xs good d middle k above inside))
    | inl same ↦ let one : middle ≡ k = omega (arith, same, le) in
        subst (λ (n : ℕ). request_order (get_or xs n d).request target ≡ Greater) one (here d Greater p tested is)
  ]

  pub found : (p : Ordering) (reply : ReplyParts) → p ≡ request_order shown target → p ≡ Equal → ((d : Answer) → reply ≡ (get_or xs middle d).reply)
      → HasReply xs target reply
  found p reply tested is replies = record {
    at = middle;
    within = within;
    is = λ d. let same = equal (get_or xs middle d).request target (here d Equal p tested is) in λ i. record { request = same i; reply = sym (replies d) i };
  }

-- ---- it is nowhere

pub not_found : (xs : List Answer) (target : RequestParts) (reply : ReplyParts) (low high : ℕ) → high ≤ low
    → ((d : Answer) (k : ℕ) → k < low → request_order (get_or xs k d).request target ≡ Less)
    → ((d : Answer) (k : ℕ) → high ≤ k → k < length xs → request_order (get_or xs k d).request target ≡ Greater)
    → HasReply xs target reply → ⊥
not_found xs target reply low high le before after h =
    let d : Answer = record { request = target; reply = reply } in
    let itself : request_order (get_or xs h.at d).request target ≡ Equal = ap (λ (z : Answer). request_order z.request target) (h.is d) ∙ tied_itself total target in
    elim (le_or_lt low h.at) [
      | inr below ↦ let clash : Less ≡ Equal = sym (before d h.at below) ∙ itself in cc
      | inl above ↦ let clash : Greater ≡ Equal = sym (after d h.at (omega (arith, le, above)) h.within) ∙ itself in cc
    ]
