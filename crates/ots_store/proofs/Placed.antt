-- What an index of places finds, and how it grows.
use Rattle.std.proofs.Common.{◌≡◌, ◌⊎◌, inl, inr, ◌<◌, ◌≤◌, ◌+◌, ℕ, suc, Bool, true, false, cond, List, [], ◌∷◌, ◌++◌, length, get_or, length-append, ltb, ltb-true, ltb-false, zero, refl, sym, ◌∙◌, ap, subst, arith}
use Rattle.std.proofs.lemmas.List.{get_or_append_left}
use Rattle.std.proofs.Math.Seq.{get_or-append_seam}
use Rattle.std.proofs.lemmas.Grind.{get_or_default_zero}
use Rattle.std.proofs.lemmas.List.Sorted.{All-permutation, Contains-permutation, length_permutation}
use Rattle.std.proofs.lemmas.Slice.Eq.{bytes_eq-Decides}
use Rattle.std.specs.Prelude.{Option, None, Some}
use Rattle.std.specs.List.Sorted.{IsPermutation}
use Rattle.std.specs.Ordering.{is_lt, is_gt}
use Rattle.std.specs.Option.{option_map}
use Rattle.std.specs.Str.{bytes_eq}
use Rattle.ots_store.specs.Index.{least}
use Rattle.ots_store.specs.Places.{Indexes, Are, key_at, key_cmp, nothing}
use Rattle.ots_store.proofs.Keys.{lt_is_gt, none_before, places_rise, same_commitment}

split_by : (j k : ℕ) (b : Bool) → ltb j k ≡ b → (j < k) ⊎ (k ≤ j)
split_by j k true is = inl (ltb-true j k is)
split_by j k false is = inr (ltb-false j k is)

pub split : (j k : ℕ) → (j < k) ⊎ (k ≤ j)
split j k = split_by j k (ltb j k) refl

-- ---- the least index, place by place

other_by : (q c : List ℕ) (b : Bool) → bytes_eq c q ≡ b → (c ≡ q → ⊥) → bytes_eq c q ≡ false
other_by q c true is other = absurd (other ((bytes_eq-Decides c q).0 is))
other_by q c false is other = is

is_other : (q c : List ℕ) → (c ≡ q → ⊥) → bytes_eq c q ≡ false
is_other q c other = other_by q c (bytes_eq c q) refl other

pub least_none : (q : List ℕ) (all : List (List ℕ)) → ((m : ℕ) → m < length all → get_or all m nothing ≡ q → ⊥) → least q all ≡ None
least_none q [] never = refl
least_none q (c ∷ all) never =
    ap (λ (b : Bool). cond b (Some 0) (option_map (λ i. suc i) (least q all))) (is_other q c (never zero (omega arith)))
    ∙ ap (λ (o : Option ℕ). option_map (λ i. suc i) o) (least_none q all (λ m lt. never (suc m) (omega arith)))

pub least_is : (q : List ℕ) (all : List (List ℕ)) (i : ℕ) → i < length all → get_or all i nothing ≡ q → ((m : ℕ) → m < i → get_or all m nothing ≡ q → ⊥) → least q all ≡ Some i
least_is q [] i lt is never = absurd (omega arith)
least_is q (c ∷ all) zero lt is never = ap (λ (b : Bool). cond b (Some 0) (option_map (λ i. suc i) (least q all))) ((bytes_eq-Decides c q).1 is)
least_is q (c ∷ all) (suc i) lt is never =
    ap (λ (b : Bool). cond b (Some 0) (option_map (λ i. suc i) (least q all))) (is_other q c (never zero (omega arith)))
    ∙ ap (λ (o : Option ℕ). option_map (λ i. suc i) o) (least_is q all i (omega arith) is (λ m below. never (suc m) (omega arith)))

-- ---- what a search finds

module _ (q : List ℕ) (all : List (List ℕ)) (places : List ℕ) (at : ℕ) (index : Indexes (length all) places all)
    (before : (j : ℕ) → j < at → is_lt (key_cmp (key_at all (get_or places j 0)) (q, 0)) ≡ true)
    (after : (j : ℕ) → at ≤ j → j < length places → is_lt (key_cmp (key_at all (get_or places j 0)) (q, 0)) ≡ false) where
  -- a place of this commitment is not before where the search ended
  not_before : (m j : ℕ) → get_or places j 0 ≡ m → get_or all m nothing ≡ q → j < at → ⊥
  not_before m j is there lt = none_before q m (subst (λ (c : List ℕ). is_lt (key_cmp (c, m) (q, 0)) ≡ true) there (subst (λ (p : ℕ). is_lt (key_cmp (key_at all p) (q, 0)) ≡ true) is (before j lt)))

  up_to : (m j : ℕ) → get_or places j 0 ≡ m → get_or all m nothing ≡ q → at ≤ j → j < length places → is_gt (key_cmp (key_at all (get_or places at 0)) (q, m)) ≡ false
  up_to m j is there le lt =
      subst (λ (c : List ℕ). is_gt (key_cmp (key_at all (get_or places at 0)) (c, m)) ≡ false) there (subst (λ (p : ℕ). is_gt (key_cmp (key_at all (get_or places at 0)) (key_at all p)) ≡ false) is (index.rises at j le lt))

  none_earlier : (p m j : ℕ) → get_or places at 0 ≡ p → get_or all p nothing ≡ q → m < p → get_or all m nothing ≡ q → j < length places → get_or places j 0 ≡ m → ((j < at) ⊎ (at ≤ j)) → ⊥
  none_earlier p m j is there below same lt here (inl earlier) = not_before m j here same earlier
  none_earlier p m j is there below same lt here (inr le) =
      let up = subst (λ (c : List ℕ). is_gt (key_cmp (c, p) (q, m)) ≡ false) there (subst (λ (n : ℕ). is_gt (key_cmp (key_at all n) (q, m)) ≡ false) is (up_to m j here same le lt)) in
      let rise = places_rise q p m up in omega arith

  pub found : (p : ℕ) → at < length places → get_or places at 0 ≡ p → get_or all p nothing ≡ q → Some p ≡ least q all
  found p lt is there =
      let within : p < length all = subst (λ (n : ℕ). n < length all) is (index.are.within at lt) in
      sym (least_is q all p within there (λ m below same. let e = index.are.each m (omega arith) in none_earlier p m e.0 is there below same e.1 e.2 (split e.0 at)))

  no_other : (m j : ℕ) → (at < length places → get_or all (get_or places at 0) nothing ≡ q → ⊥) → get_or all m nothing ≡ q → j < length places → get_or places j 0 ≡ m → ((j < at) ⊎ (at ≤ j)) → ⊥
  no_other m j other same lt here (inl earlier) = not_before m j here same earlier
  no_other m j other same lt here (inr le) =
      other (omega arith) (same_commitment (get_or all (get_or places at 0) nothing) q (get_or places at 0) m (after at (omega arith) (omega arith)) (up_to m j here same le lt))

  pub found_none : (at < length places → get_or all (get_or places at 0) nothing ≡ q → ⊥) → None ≡ least q all
  found_none other = sym (least_none q all (λ m lt same. let e = index.are.each m lt in no_other m e.0 other same e.1 e.2 (split e.0 at)))

-- ---- more commitments after those that are indexed

pub longer : (n : ℕ) (places : List ℕ) (all more : List (List ℕ)) → n ≤ length all → Indexes n places all → Indexes n places (all ++ more)
longer n places all more le index = record {
  are = index.are;
  rises = λ i j up lt.
      subst (λ (k : List ℕ × ℕ). is_gt (key_cmp k (key_at (all ++ more) (get_or places j 0))) ≡ false) (sym (stays (get_or places i 0) (index.are.within i (omega arith))))
      (subst (λ (k : List ℕ × ℕ). is_gt (key_cmp (key_at all (get_or places i 0)) k) ≡ false) (sym (stays (get_or places j 0) (index.are.within j lt))) (index.rises i j up lt));
}
  where
    stays : (p : ℕ) → p < n → key_at (all ++ more) p ≡ key_at all p
    stays p lt = ap (λ (c : List ℕ). (c, p)) (get_or_append_left all more nothing p (omega arith))

-- ---- places that are moved

module _ (n : ℕ) (places rest : List ℕ) (are : Are n places) (moved : IsPermutation places rest) where
  within_any : (k d : ℕ) → k < length places → get_or places k d < n
  within_any k d below = subst (λ (p : ℕ). p < n) (sym (get_or_default_zero places k d below)) (are.within k below)

  there : (p : ℕ) → ((j : ℕ) × (j < length places) × (get_or places j 0 ≡ p)) → (j : ℕ) × (j < length rest) × (get_or rest j 0 ≡ p)
  there p e =
      let found = Contains-permutation places rest p moved (e.0, e.1, get_or_default_zero places e.0 p e.1 ∙ e.2) in
      (found.0, found.1, sym (get_or_default_zero rest found.0 p found.1) ∙ found.2)

  pub are_moved : Are n rest
  are_moved = record {
    count = length_permutation places rest moved ∙ are.count;
    within = λ j lt. All-permutation (λ p. p < n) places rest moved within_any j 0 lt;
    each = λ p lt. there p (are.each p lt);
  }

pub are_more : (n : ℕ) (places : List ℕ) → Are n places → Are (n + 1) (places ++ n ∷ [])
are_more n places are = record {
  count = length-append places (n ∷ []) ∙ omega (arith, are.count);
  within = λ j lt. more_within j (omega (arith, length-append places (n ∷ []))) (split j n);
  each = λ p lt. more_each p (split p n) lt;
}
  where
    last : get_or (places ++ n ∷ []) n 0 ≡ n
    last = ap (λ (i : ℕ). get_or (places ++ n ∷ []) i 0) (sym are.count) ∙ get_or-append_seam places n [] 0

    more_within : (j : ℕ) → j < n + 1 → ((j < n) ⊎ (n ≤ j)) → get_or (places ++ n ∷ []) j 0 < n + 1
    more_within j lt (inl old) = let here = get_or_append_left places (n ∷ []) 0 j (omega (arith, are.count)) in let below = are.within j (omega (arith, are.count)) in omega arith
    more_within j lt (inr new) = let same : j ≡ n = omega arith in let here = ap (λ (i : ℕ). get_or (places ++ n ∷ []) i 0) same ∙ last in omega arith

    more_each : (p : ℕ) → ((p < n) ⊎ (n ≤ p)) → p < n + 1 → (j : ℕ) × (j < length (places ++ n ∷ [])) × (get_or (places ++ n ∷ []) j 0 ≡ p)
    more_each p (inl old) lt = let e = are.each p old in (e.0, omega (arith, length-append places (n ∷ []), e.1), get_or_append_left places (n ∷ []) 0 e.0 e.1 ∙ e.2)
    more_each p (inr new) lt = let same : n ≡ p = omega arith in (n, omega (arith, length-append places (n ∷ []), are.count), last ∙ same)

pub in_turn_are : (n : ℕ) (places : List ℕ) → length places ≡ n → ((j : ℕ) → j < n → get_or places j 0 ≡ j) → Are n places
in_turn_are n places count each = record {
  count = count;
  within = λ j lt. let is = each j (omega arith) in omega arith;
  each = λ p lt. (p, omega arith, each p lt);
}

-- ---- all places, sorted

pub sorted : (n : ℕ) (places rest : List ℕ) (all : List (List ℕ)) → length places ≡ n → ((j : ℕ) → j < n → get_or places j 0 ≡ j) → IsPermutation places rest
    → ((i j : ℕ) (d : ℕ) → i ≤ j → j < length rest → is_lt (key_cmp (key_at all (get_or rest j d)) (key_at all (get_or rest i d))) ≡ false) → Indexes n rest all
sorted n places rest all count each moved up = record {
  are = are_moved n places rest (in_turn_are n places count each) moved;
  rises = λ i j le lt. sym (lt_is_gt (key_at all (get_or rest j 0)) (key_at all (get_or rest i 0))) ∙ up i j 0 le lt;
}
