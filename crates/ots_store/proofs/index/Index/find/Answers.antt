use Rattle.std.proofs.Common.{◌≡◌, ◌≤◌, ◌<◌, ℕ, List, [], length, true, false, get_or, sym, ◌∙◌, subst, ap, arith}
use Rattle.std.specs.Ordering.{is_lt}
use Rattle.std.proofs.lemmas.Grind.{get_or_default_zero}
use Rattle.std.proofs.lemmas.List.{get_or_default}
use Rattle.std.proofs.lemmas.Slice.Eq.{bytes_eq-Decides}
use Rattle.ots_store.specs.Places.{key_at, key_cmp, nothing}
use Rattle.ots_store.proofs.Placed.{found, found_none}
use Rattle.ots_store.proofs.index.Index.find.Goals as goal

pub returns-then-eq : goal.returns-then-eq
returns-then-eq c =
    let all = c.args.all.now in
    let q = c.args.commitment.now in
    let places = c.args.self.now.places.items in
    let at = c.first_from-at.result in
    let p = c.index-place.result.now in
    let here = c.deref.ensures.value in
    let lt : at < length places = omega (arith, c.len.ensures, c.if-at-len.true) in
    let is : get_or places at 0 ≡ p = sym (c.index-place.ensures ∙ get_or_default_zero places at p lt) in
    let within : p < length all = subst (λ (n : ℕ). n < length all) is (c.requires.are.within at lt) in
    found q all places at c.requires
    (subst (λ (l : List ℕ). (j : ℕ) → j < at → is_lt (key_cmp (key_at all (get_or l j 0)) (q, 0)) ≡ true) here c.first_from-at.ensures.before)
    (subst (λ (l : List ℕ). (j : ℕ) → at ≤ j → j < length l → is_lt (key_cmp (key_at all (get_or l j 0)) (q, 0)) ≡ false) here c.first_from-at.ensures.after)
    p lt is (get_or_default all p nothing [] within ∙ (bytes_eq-Decides (get_or all p []) q).0 (sym c.eq.ensures ∙ c.if-eq.true))

pub returns-else-eq : goal.returns-else-eq
returns-else-eq c =
    let all = c.args.all.now in
    let q = c.args.commitment.now in
    let places = c.args.self.now.places.items in
    let at = c.first_from-at.result in
    let p = c.index-place.result.now in
    let here = c.deref.ensures.value in
    let lt : at < length places = omega (arith, c.len.ensures, c.if-at-len.true) in
    let is : get_or places at 0 ≡ p = sym (c.index-place.ensures ∙ get_or_default_zero places at p lt) in
    let within : p < length all = subst (λ (n : ℕ). n < length all) is (c.requires.are.within at lt) in
    found_none q all places at c.requires
    (subst (λ (l : List ℕ). (j : ℕ) → j < at → is_lt (key_cmp (key_at all (get_or l j 0)) (q, 0)) ≡ true) here c.first_from-at.ensures.before)
    (subst (λ (l : List ℕ). (j : ℕ) → at ≤ j → j < length l → is_lt (key_cmp (key_at all (get_or l j 0)) (q, 0)) ≡ false) here c.first_from-at.ensures.after)
    (λ lt' same.
    let there : get_or all p [] ≡ q = get_or_default all p [] nothing within ∙ ap (λ (i : ℕ). get_or all i nothing) (sym is) ∙ same in
    absurd (let h : false ≡ true = sym c.if-eq.false ∙ c.eq.ensures ∙ (bytes_eq-Decides (get_or all p []) q).1 there in cc))

pub returns-else-at-len : goal.returns-else-at-len
returns-else-at-len c =
    let all = c.args.all.now in
    let q = c.args.commitment.now in
    let places = c.args.self.now.places.items in
    let at = c.first_from-at.result in
    let here = c.deref.ensures.value in
    let past = c.len.ensures in
    found_none q all places at c.requires
    (subst (λ (l : List ℕ). (j : ℕ) → j < at → is_lt (key_cmp (key_at all (get_or l j 0)) (q, 0)) ≡ true) here c.first_from-at.ensures.before)
    (subst (λ (l : List ℕ). (j : ℕ) → at ≤ j → j < length l → is_lt (key_cmp (key_at all (get_or l j 0)) (q, 0)) ≡ false) here c.first_from-at.ensures.after)
    (λ lt same. absurd (omega arith))
