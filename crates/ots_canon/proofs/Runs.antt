-- Items in order, and runs of them that begin alike.
use Rattle.std.proofs.Common.{◌≡◌, ℕ, ◌+◌, ◌-◌, ◌<◌, ◌≤◌, List, [], ◌∷◌, ◌++◌, map, take, length, get_or, Bool, false, refl, sym, ap, subst, ◌∙◌, inl, inr, arith}
use Rattle.std.specs.List.{AllWithin}
use Rattle.std.specs.Prelude.{All, slice_get, Some}
use Rattle.std.specs.List.Sorted.{IsSortedBy, IsSortedWithin, IsPermutation}
use Rattle.std.proofs.lemmas.Bool.Decides.{eqb_tells}
use Rattle.std.proofs.lemmas.Grind.{get_or_default_zero}
use Rattle.std.specs.Ordering.{is_lt, ordering_reverse}
use Rattle.std.specs.Cmp.{IsStrictWeakOrder}
use Rattle.std.specs.Fn.{Called, ComparesAs}
use Rattle.std.specs.declared.cmp.Ordering.{Ordering}
use Rattle.std.specs.declared.cmp.Ordering.TheVariants.{Less, Equal, Greater}
use Rattle.std.proofs.lemmas.Fn.{always_returns_same}
use Rattle.std.proofs.lemmas.List.{get_or_default, get_or-map, length-map, map-append, take_more}
use Rattle.std.proofs.lemmas.List.Sorted.{All-permutation, IsPermutation-map}
use Rattle.std.proofs.lemmas.List.Elements.{AllWithin-more, All-push}
use Rattle.std.proofs.lemmas.List.MinMax.{ranks_by}
use denote.Ref.{Bor}
use denote.Param.Members.{Mut}
use Rattle.ots_tree.specs.declared.token.Token.{Token}
use Rattle.ots_canon.specs.Order.{step_cmp}
use Rattle.ots_canon.specs.Steps.{token_step, step_of, step_at}
use Rattle.ots_canon.specs.declared.heads.Head.{Head}
use Rattle.ots_canon.specs.declared.heads.Head.TheVariants as head
use Rattle.ots_canon.specs.declared.heads.Item.{Item}
use Rattle.ots_canon.specs.Heads.{head_step, place_of, head_before, IsHead, AreHeads}
use Rattle.ots_canon.specs.Frames.{comes_before, IsRunEnd, IsSort}
use Rattle.ots_canon.proofs.Orders.{step_total}

-- ---- the sort

-- one more item
pub heads_more : {ts : List Token} (ks : List ℕ) (n : ℕ) (h : Head) {x : Token} {items now : List Item} → n < length ks → slice_get ts (get_or ks n 0) ≡ Some x
    → head_step h ≡ token_step x → now ≡ items ++ (record { head = h; place = get_or ks n 0 }) ∷ [] → AreHeads ts (take n ks) items → AreHeads ts (take (n + 1) ks) now
heads_more {ts} ks n h {x} {items} {now} l is e are a =
    let i : Item = record { head = h; place = get_or ks n 0 } in
    record {
      places = ap (map place_of) are ∙ map-append place_of items (i ∷ []) ∙ ap (λ (z : List ℕ). z ++ get_or ks n 0 ∷ []) a.places ∙ sym (take_more ks n 0 l);
      heads = subst (All (IsHead ts)) (sym are)
          (All-push (IsHead ts) items i a.heads (e ∙ sym (ap step_of is)));
    }

-- from the clause of a sort whose closure compares heads
pub sorted_items : {F : Type 0} {g : Mut F (Bor Item × (Bor Item × Unit {0})) Ordering} {f : F} (items : List Item)
    → ((lt : Item → Item → Bool) → IsStrictWeakOrder lt → ComparesAs g lt f → IsSortedBy lt items)
    → ((a : Bor Item × (Bor Item × Unit {0})) (r : Ordering) (f' : F) → Called g f a r f' → (r ≡ step_cmp (head_step a.0.now.head) (head_step a.1.0.now.head)) × (f' ≡ f))
    → IsSortedBy head_before items
sorted_items {f = f} items sorted calls =
    sorted head_before (ranks_by step_total (λ (i : Item). head_step i.head)) (always_returns_same _ _ f (λ a r f' called. let h = calls a r f' called in (ap is_lt h.0, h.1)))

-- items in order are at places in order
pub sort_of : {ts : List Token} {ks ls : List ℕ} {items now : List Item} → AreHeads ts ks items → IsPermutation items now → IsSortedBy head_before now → ls ≡ map place_of now → IsSort ts ks ls
sort_of {ts} {ks} {ls} {items} {now} a permutation sorted e =
    let heads = All-permutation (IsHead ts) items now permutation a.heads in
    record {
      permutation = subst (λ (z : List ℕ). IsPermutation z ls) a.places (subst (IsPermutation (map place_of items)) (sym e) (IsPermutation-map place_of items now permutation));
      sorted = subst (IsSortedBy (comes_before ts)) (sym e) (λ k d z l. above heads k d z l);
    }
  where
    above : All (IsHead ts) now → (k d : ℕ) → 0 ≤ k → k + 1 < length (map place_of now) → comes_before ts (get_or (map place_of now) (k + 1) d) (get_or (map place_of now) k d) ≡ false
    above heads k d z l =
        let len = length-map now place_of in
        let it : Item = record { head = head.Sha256; place = 0 } in
        let lk : k < length now = omega arith in
        let ll : k + 1 < length now = omega arith in
        (λ i. is_lt (step_cmp (step_at ts (get_or-map place_of now (k + 1) it d ll i)) (step_at ts (get_or-map place_of now k it d lk i))))
        ∙ (λ i. is_lt (step_cmp (sym (heads (k + 1) it ll) i) (sym (heads k it lk) i)))
        ∙ sorted k it (omega arith) (omega arith)

-- one begins as it does
pub alike_one : (ts : List Token) (ks : List ℕ) (from : ℕ) → from < length ks → AllWithin (λ (k : ℕ). step_at ts k ≡ step_at ts (get_or ks from 0)) ks from (from + 1)
alike_one ts ks from l = λ k d le lt.
    let e : k ≡ from = omega arith in
    (λ i. step_at ts (get_or ks (e i) d)) ∙ ap (step_at ts) (get_or_default ks from d 0 l)

-- one more begins alike
pub run_more : (ts : List Token) (ks : List ℕ) {from end : ℕ} → end < length ks → step_at ts (get_or ks from 0) ≡ step_at ts (get_or ks end 0)
    → AllWithin (λ (k : ℕ). step_at ts k ≡ step_at ts (get_or ks from 0)) ks from end
    → AllWithin (λ (k : ℕ). step_at ts k ≡ step_at ts (get_or ks from 0)) ks from (end + 1)
run_more ts ks {from} {end} l same h =
    AllWithin-more (λ (k : ℕ). step_at ts k ≡ step_at ts (get_or ks from 0)) ks from end h
    (λ d. ap (step_at ts) (get_or_default ks end d 0 l) ∙ sym same)

-- where a run ends, the next item comes later
less_of : (x y : List ℕ) (r : Ordering) → step_cmp x y ≡ r → is_lt (step_cmp y x) ≡ false → (step_cmp x y ≡ Equal → ⊥) → step_cmp x y ≡ Less
less_of x y Less e f h = e
less_of x y Equal e f h = absurd (h e)
less_of x y Greater e f h = absurd (let less = ap is_lt (step_total.antisymm y x ∙ ap ordering_reverse e) in cc)

pub next_later : (ts : List Token) (ks : List ℕ) (from end : ℕ) → IsRunEnd ts ks from end → IsSortedBy (comes_before ts) ks → end < length ks
    → step_cmp (step_at ts (get_or ks from 0)) (step_at ts (get_or ks end 0)) ≡ Less
next_later ts ks from end r sorted l =
    let some = r.some in
    let e : end - 1 + 1 ≡ end = omega arith in
    let alike : step_at ts (get_or ks (end - 1) 0) ≡ step_at ts (get_or ks from 0) = r.alike (end - 1) 0 (omega arith) (omega arith) in
    let up : is_lt (step_cmp (step_at ts (get_or ks (end - 1 + 1) 0)) (step_at ts (get_or ks (end - 1) 0))) ≡ false = sorted (end - 1) 0 (omega arith) (omega arith) in
    less_of (step_at ts (get_or ks from 0)) (step_at ts (get_or ks end 0)) _ refl
    ((λ i. is_lt (step_cmp (step_at ts (get_or ks (sym e i) 0)) (sym alike i))) ∙ up)
    (r.apart l)

-- one item more stands in order
pub in_order_more : (ts : List Token) (ks : List ℕ) {at : ℕ} → 1 ≤ at → at < length ks → comes_before ts (get_or ks at 0) (get_or ks (at - 1) 0) ≡ false
    → IsSortedWithin (comes_before ts) ks 0 at → IsSortedWithin (comes_before ts) ks 0 (at + 1)
in_order_more ts ks {at} some l there sorted k d zero small = elim (eqb_tells (k + 1) at) [
  | inr other ↦ let apart = other.1 in sorted k d zero (omega (arith, small, apart))
  | inl last ↦
      let place = last.1 in
      let before : at - 1 ≡ k = omega (arith, place) in
      let here : comes_before ts (get_or ks (k + 1) 0) (get_or ks k 0) ≡ false =
      (subst (λ (z : ℕ). comes_before ts (get_or ks z 0) (get_or ks k 0) ≡ false) (sym place)
      (subst (λ (z : ℕ). comes_before ts (get_or ks at 0) (get_or ks z 0) ≡ false) before there)) in
      rw (get_or_default_zero ks (k + 1) d (omega (arith, l, place)), get_or_default_zero ks k d (omega (arith, l, place))) here
]
