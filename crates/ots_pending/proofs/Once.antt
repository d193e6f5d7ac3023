-- The pairs of pending paths, when one path more is found.
use Rattle.std.proofs.Common.{◌≡◌, ℕ, Bool, true, false, cond, List, [], ◌∷◌, ◌++◌, map, refl, sym, ap, ◌∙◌, arith, max, append_assoc}
use Rattle.std.specs.Prelude.{◌||◌, not}
use Rattle.std.specs.List.{filter, list_any}
use Rattle.std.proofs.lemmas.List.{append-nil, map-append}
use Rattle.ots_tree.specs.declared.pending.PendingAt.{PendingAt}
use Rattle.ots_pending.specs.Pairs.{Pair, PairAt, asked_by, is_same, once, deepest, at_depth, pairs_of}
use Rattle.ots_pending.specs.Listed.{raised, with_pair, pair_at, with_found}
use Rattle.ots_pending.proofs.Raising.{same_of, of_same}

back : (p q : Pair) → is_same p q ≡ true → is_same q p ≡ true
back p q h = let s = same_of p q h in of_same q p (record { uri = sym s.uri; message = sym s.message })

along : (p q r : Pair) → is_same p q ≡ true → is_same q r ≡ true → is_same p r ≡ true
along p q r h k = let s = same_of p q h in let t = same_of q r k in of_same p r (record { uri = s.uri ∙ t.uri; message = s.message ∙ t.message })

both_ways : (b c : Bool) → (b ≡ true → c ≡ true) → (c ≡ true → b ≡ true) → b ≡ c
both_ways true true f g = refl
both_ways false false f g = refl
both_ways true false f g = let e = f refl in absurd cc
both_ways false true f g = let e = g refl in absurd cc

turned : (p q : Pair) → is_same p q ≡ is_same q p
turned p q = both_ways (is_same p q) (is_same q p) (back p q) (back q p)

differ : (b : Bool) → (b ≡ true → ⊥) → b ≡ false
differ true h = absurd (h refl)
differ false h = refl

-- ---- each pair once

abbrev other_pairs : Pair → List Pair → List Pair
other_pairs p ps = filter (λ q. not (is_same p q)) ps

kept_or_not : (y p q : Pair) (ps : List Pair) (b : Bool) → is_same p q ≡ b → is_same y p ≡ false
    → list_any (is_same y) (other_pairs p ps) ≡ list_any (is_same y) ps
    → list_any (is_same y) (cond (not b) (q ∷ other_pairs p ps) (other_pairs p ps)) ≡ (is_same y q || list_any (is_same y) ps)
kept_or_not y p q ps true e apart rest =
    let no : is_same y q ≡ false = differ (is_same y q) (λ h. let same = along y q p h (back p q e) in absurd (let no : false ≡ true = sym apart ∙ same in cc)) in
    rest ∙ ap (λ (z : Bool). z || list_any (is_same y) ps) (sym no)
kept_or_not y p q ps false e apart rest = ap (λ (z : Bool). is_same y q || z) rest

any_other : (y p : Pair) (ps : List Pair) → is_same y p ≡ false → list_any (is_same y) (other_pairs p ps) ≡ list_any (is_same y) ps
any_other y p [] apart = refl
any_other y p (q ∷ ps) apart = kept_or_not y p q ps (is_same p q) refl apart (any_other y p ps apart)

same_or_not : (y p : Pair) (ps qs : List Pair) (b : Bool) → is_same y p ≡ b → list_any (is_same y) qs ≡ list_any (is_same y) ps
    → (b || list_any (is_same y) (other_pairs p qs)) ≡ (b || list_any (is_same y) ps)
same_or_not y p ps qs true e h = refl
same_or_not y p ps qs false e h = any_other y p qs e ∙ h

any_once : (y : Pair) (ps : List Pair) → list_any (is_same y) (once ps) ≡ list_any (is_same y) ps
any_once y [] = refl
any_once y (p ∷ ps) = same_or_not y p ps (once ps) (is_same y p) refl (any_once y ps)

other_step : (b : Bool) (q : Pair) (xs ys zs : List Pair) → xs ≡ ys ++ zs → cond (not b) (q ∷ xs) xs ≡ cond (not b) (q ∷ ys) ys ++ zs
other_step true q xs ys zs h = h
other_step false q xs ys zs h = ap (λ (z : List Pair). q ∷ z) h

other_append : (p y : Pair) (qs : List Pair) → other_pairs p (qs ++ y ∷ []) ≡ other_pairs p qs ++ other_pairs p (y ∷ [])
other_append p y [] = refl
other_append p y (q ∷ qs) = other_step (is_same p q) q (other_pairs p (qs ++ y ∷ [])) (other_pairs p qs) (other_pairs p (y ∷ [])) (other_append p y qs)

last_one : (y p : Pair) (qs : List Pair) (s : Bool) → is_same p y ≡ s → p ∷ (other_pairs p qs ++ cond (not s) (y ∷ []) []) ≡ cond (s || false) (p ∷ other_pairs p qs) (p ∷ (other_pairs p qs ++ y ∷ []))
last_one y p qs true e = ap (λ (z : List Pair). p ∷ z) (append-nil (other_pairs p qs))
last_one y p qs false e = refl

or_true : (s : Bool) → (s || true) ≡ true
or_true true = refl
or_true false = refl

chosen : (b : Bool) (xs ys : List Pair) → b ≡ true → cond b xs ys ≡ xs
chosen true xs ys h = refl
chosen false xs ys h = absurd cc

one_more : (y p : Pair) (qs : List Pair) (b : Bool)
    → p ∷ other_pairs p (cond b qs (qs ++ y ∷ [])) ≡ cond (is_same y p || b) (p ∷ other_pairs p qs) (p ∷ (other_pairs p qs ++ y ∷ []))
one_more y p qs true = sym (chosen (is_same y p || true) _ _ (or_true (is_same y p)))
one_more y p qs false =
    ap (λ (z : List Pair). p ∷ z) (other_append p y qs)
    ∙ last_one y p qs (is_same p y) refl
    ∙ ap (λ (z : Bool). cond (z || false) (p ∷ other_pairs p qs) (p ∷ (other_pairs p qs ++ y ∷ []))) (turned p y)

once_more : (ps : List Pair) (y : Pair) → once (ps ++ y ∷ []) ≡ cond (list_any (is_same y) ps) (once ps) (once ps ++ y ∷ [])
once_more [] y = refl
once_more (p ∷ ps) y = ap (λ (z : List Pair). p ∷ other_pairs p z) (once_more ps y) ∙ one_more y p (once ps) (list_any (is_same y) ps)

-- ---- depths

max_step : (t s : Bool) (z d x : ℕ) → cond t (max z (cond s (max d x) d)) (cond s (max d x) d) ≡ cond s (max (cond t (max z d) d) x) (cond t (max z d) d)
max_step true true z d x = omega arith
max_step true false z d x = refl
max_step false true z d x = refl
max_step false false z d x = refl

max_none : (s : Bool) (x : ℕ) → cond s (max x 0) 0 ≡ cond s (max 0 x) 0
max_none true x = omega arith
max_none false x = refl

deepest_more : (p : Pair) (xs : List PendingAt) (x : PendingAt) → deepest p (xs ++ x ∷ []) ≡ cond (is_same p (asked_by x)) (max (deepest p xs) x.depth) (deepest p xs)
deepest_more p [] x = max_none (is_same p (asked_by x)) x.depth
deepest_more p (z ∷ xs) x =
    ap (λ (w : ℕ). cond (is_same p (asked_by z)) (max z.depth w) w) (deepest_more p xs x)
    ∙ max_step (is_same p (asked_by z)) (is_same p (asked_by x)) z.depth (deepest p xs) x.depth

raised_or_not : (s : Bool) (p : Pair) (d x : ℕ) → (let r : PairAt = record { pair = p; depth = cond s (max d x) d } in r) ≡ cond s (record { pair = p; depth = max d x }) (record { pair = p; depth = d })
raised_or_not true p d x = refl
raised_or_not false p d x = refl

depth_more : (xs : List PendingAt) (x : PendingAt) (p : Pair) → at_depth (xs ++ x ∷ []) p ≡ raised (pair_at x) (at_depth xs p)
depth_more xs x p =
    ap (λ (z : ℕ). let r : PairAt = record { pair = p; depth = z } in r) (deepest_more p xs x)
    ∙ ap (λ (z : Bool). let r : PairAt = record { pair = p; depth = cond z (max (deepest p xs) x.depth) (deepest p xs) } in r) (turned p (asked_by x))
    ∙ raised_or_not (is_same (asked_by x) p) p (deepest p xs) x.depth

depths_more : (xs : List PendingAt) (x : PendingAt) (ps : List Pair) → map (at_depth (xs ++ x ∷ [])) ps ≡ map (raised (pair_at x)) (map (at_depth xs) ps)
depths_more xs x [] = refl
depths_more xs x (p ∷ ps) =
    ap (λ (z : PairAt). z ∷ map (at_depth (xs ++ x ∷ [])) ps) (depth_more xs x p)
    ∙ ap (λ (z : List PairAt). raised (pair_at x) (at_depth xs p) ∷ z) (depths_more xs x ps)

either_false : (b c : Bool) → (b || c) ≡ false → (b ≡ false) × (c ≡ false)
either_false true c h = absurd cc
either_false false c h = (refl, h)

zero_of : (b : Bool) (d e : ℕ) → b ≡ false → e ≡ 0 → cond b (max d e) e ≡ 0
zero_of true d e h k = absurd cc
zero_of false d e h k = k

none_deep : (y : Pair) (xs : List PendingAt) → list_any (is_same y) (map asked_by xs) ≡ false → deepest y xs ≡ 0
none_deep y [] h = refl
none_deep y (x ∷ xs) h =
    let e = either_false (is_same y (asked_by x)) (list_any (is_same y) (map asked_by xs)) h in
    zero_of (is_same y (asked_by x)) x.depth (deepest y xs) e.0 (none_deep y xs e.1)

not_raised : (b : Bool) (q r : PairAt) → b ≡ false → cond b q r ≡ r
not_raised true q r h = absurd cc
not_raised false q r h = refl

none_raised : (p : PairAt) (qs : List PairAt) → list_any (λ q. is_same p.pair q.pair) qs ≡ false → map (raised p) qs ≡ qs
none_raised p [] h = refl
none_raised p (q ∷ qs) h =
    let e = either_false (is_same p.pair q.pair) (list_any (λ r. is_same p.pair r.pair) qs) h in
    ap (λ (z : PairAt). z ∷ map (raised p) qs) (not_raised (is_same p.pair q.pair) _ q e.0)
    ∙ ap (λ (z : List PairAt). q ∷ z) (none_raised p qs e.1)

any_pairs : (y : Pair) (xs : List PendingAt) (ps : List Pair) → list_any (λ q. is_same y q.pair) (map (at_depth xs) ps) ≡ list_any (is_same y) ps
any_pairs y xs [] = refl
any_pairs y xs (p ∷ ps) = ap (λ (z : Bool). is_same y p || z) (any_pairs y xs ps)

-- ---- one pending path more

same_depth : (s : Bool) (d x : ℕ) → s ≡ true → d ≡ 0 → cond s (max d x) d ≡ x
same_depth true d x h k = omega arith
same_depth false d x h k = absurd cc

itself : (p : Pair) → is_same p p ≡ true
itself p = of_same p p (record { uri = refl; message = refl })

module _ (xs : List PendingAt) (x : PendingAt) where
  new_pair : list_any (is_same (asked_by x)) (map asked_by xs) ≡ false → at_depth (xs ++ x ∷ []) (asked_by x) ≡ pair_at x
  new_pair h = ap (λ (z : ℕ). let r : PairAt = record { pair = asked_by x; depth = z } in r)
      (deepest_more (asked_by x) xs x ∙ same_depth (is_same (asked_by x) (asked_by x)) (deepest (asked_by x) xs) x.depth (itself (asked_by x)) (none_deep (asked_by x) xs h))

  by_test : (b : Bool) → list_any (is_same (asked_by x)) (map asked_by xs) ≡ b
      → map (at_depth (xs ++ x ∷ [])) (cond b (once (map asked_by xs)) (once (map asked_by xs) ++ asked_by x ∷ [])) ≡ cond b (map (raised (pair_at x)) (pairs_of xs)) (pairs_of xs ++ pair_at x ∷ [])
  by_test true h = depths_more xs x (once (map asked_by xs))
  by_test false h =
      let none : list_any (λ q. is_same (asked_by x) q.pair) (pairs_of xs) ≡ false = any_pairs (asked_by x) xs (once (map asked_by xs)) ∙ any_once (asked_by x) (map asked_by xs) ∙ h in
      map-append (at_depth (xs ++ x ∷ [])) (once (map asked_by xs)) (asked_by x ∷ [])
      ∙ ap (λ (z : List PairAt). z ++ at_depth (xs ++ x ∷ []) (asked_by x) ∷ []) (depths_more xs x (once (map asked_by xs)) ∙ none_raised (pair_at x) (pairs_of xs) none)
      ∙ ap (λ (z : PairAt). pairs_of xs ++ z ∷ []) (new_pair h)

  pub found_more : pairs_of (xs ++ x ∷ []) ≡ with_pair (pair_at x) (pairs_of xs)
  found_more =
      ap (λ (z : List Pair). map (at_depth (xs ++ x ∷ [])) (once z)) (map-append asked_by xs (x ∷ []))
      ∙ ap (map (at_depth (xs ++ x ∷ []))) (once_more (map asked_by xs) (asked_by x))
      ∙ by_test (list_any (is_same (asked_by x)) (map asked_by xs)) refl
      ∙ ap (λ (z : Bool). cond z (map (raised (pair_at x)) (pairs_of xs)) (pairs_of xs ++ pair_at x ∷ []))
      (sym (any_pairs (asked_by x) xs (once (map asked_by xs)) ∙ any_once (asked_by x) (map asked_by xs)))

pub all_found : (xs ys : List PendingAt) → with_found ys (pairs_of xs) ≡ pairs_of (xs ++ ys)
all_found xs [] = ap pairs_of (sym (append-nil xs))
all_found xs (y ∷ ys) =
    ap (with_found ys) (sym (found_more xs y))
    ∙ all_found (xs ++ y ∷ []) ys
    ∙ ap pairs_of (append_assoc xs (y ∷ []) ys)
