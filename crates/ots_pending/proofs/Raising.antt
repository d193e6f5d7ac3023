-- One more pair among those that are kept.
use Rattle.std.proofs.Common.{◌≡◌, ℕ, zero, suc, ◌<◌, ◌≤◌, ◌^◌, inl, inr, Bool, true, false, cond, List, [], ◌∷◌, ◌++◌, map, length, get_or, take, Option, Some, None, Result, Ok, Err, refl, sym, ap, subst, ◌∙◌, arith, max}
use Rattle.std.proofs.lemmas.Bool.{ltb-true, ltb-false}
use Rattle.std.specs.Prelude.{option_map, OnOk, ◌&&◌, nat_lt, bytes_eq, slice_set}
use Rattle.std.specs.List.{slice_get, list_any}
use Rattle.std.specs.Int.{to_le_bytes, from_le_bytes, w64}
use Rattle.std.proofs.lemmas.List.{map-append, length-map, append_cancel_left}
use Rattle.std.proofs.lemmas.Nat.{from_le_bytes-to_le_bytes_8}
use Rattle.std.proofs.Math.Seq.{take-append_seam}
use Rattle.std.proofs.lemmas.Slice.Eq.{bytes_eq-Decides}
use Rattle.ots_pending.specs.declared.kept_pair.KeptPair.{KeptPair}
use Rattle.ots_pending.specs.declared.listing.Listing.{Listing}
use Rattle.ots_pending.specs.Distinct.{AreDistinct, IsNumbered}
use Rattle.ots_pending.specs.Pairs.{Pair, PairAt, is_same}
use Rattle.ots_pending.specs.Listed.{key_of, key, pair_in, pairs_in, IsKept, deepened, raised_at, put_at, raised, with_pair, Adds}
use Rattle.ots_pending.proofs.Maps.{get_before, get_last, get_of_more, in_range}
use Rattle.ots_pending.proofs.Lists.{some_same, get_map, or_of_get, get_of_or, get_mapped, any_at, any_nowhere}

-- ---- pairs that are the same

pub record Same (p q : Pair) : Type 0 where
  pub uri : p.uri ≡ q.uri
  pub message : p.message ≡ q.message

both_true : (b c : Bool) → (b && c) ≡ true → (b ≡ true) × (c ≡ true)
both_true true c h = (refl, h)
both_true false c h = absurd cc

pub same_of : (p q : Pair) → is_same p q ≡ true → Same p q
same_of p q h =
    let b = both_true (bytes_eq p.uri q.uri) (bytes_eq p.message q.message) h in
    record { uri = (bytes_eq-Decides p.uri q.uri).0 b.0; message = (bytes_eq-Decides p.message q.message).0 b.1 }

pub of_same : (p q : Pair) → Same p q → is_same p q ≡ true
of_same p q s =
    ap (λ (z : Bool). z && bytes_eq p.message q.message) ((bytes_eq-Decides p.uri q.uri).1 s.uri)
    ∙ (bytes_eq-Decides p.message q.message).1 s.message

-- ---- one of them is raised

not_raised : (b : Bool) (q r : PairAt) → b ≡ false → cond b q r ≡ r
not_raised true q r h = absurd cc
not_raised false q r h = refl

is_raised : (b : Bool) (q r : PairAt) → b ≡ true → cond b q r ≡ q
is_raised true q r h = refl
is_raised false q r h = absurd cc

not_true : (b : Bool) → (b ≡ true → ⊥) → b ≡ false
not_true true h = absurd (h refl)
not_true false h = refl

chosen : (b : Bool) (qs rs : List PairAt) → b ≡ true → cond b qs rs ≡ qs
chosen true qs rs h = refl
chosen false qs rs h = absurd cc

other : (b : Bool) (qs rs : List PairAt) → b ≡ false → cond b qs rs ≡ rs
other true qs rs h = absurd cc
other false qs rs h = refl

module _ (f : KeptPair → PairAt) (q : PairAt) where
  unraised : (xs : List KeptPair) → ((j : ℕ) (b : KeptPair) → slice_get xs j ≡ Some b → is_same q.pair (f b).pair ≡ true → ⊥) → map f xs ≡ map (raised q) (map f xs)
  unraised [] none = refl
  unraised (a ∷ xs) none =
      ap (λ (z : PairAt). z ∷ map f xs) (sym (not_raised _ _ (f a) (not_true (is_same q.pair (f a).pair) (none 0 a refl))))
      ∙ ap (λ (z : List PairAt). raised q (f a) ∷ z) (unraised xs (λ j b h. none (suc j) b h))

  pub raised_one : (xs : List KeptPair) (i depth : ℕ) (a : KeptPair) → slice_get xs i ≡ Some a → f (deepened depth a) ≡ raised q (f a)
      → ((j : ℕ) (b : KeptPair) → slice_get xs j ≡ Some b → is_same q.pair (f b).pair ≡ true → j ≡ i) → map f (raised_at xs i depth) ≡ map (raised q) (map f xs)
  raised_one [] i depth a h is only = refl
  raised_one (x ∷ xs) zero depth a h is only =
      let here : x ≡ a = some_same x a h in
      let first : f (deepened depth x) ≡ raised q (f x) = subst (λ (z : KeptPair). f (deepened depth z) ≡ raised q (f z)) (sym here) is in
      ap (λ (z : PairAt). z ∷ map f xs) first
      ∙ ap (λ (z : List PairAt). raised q (f x) ∷ z) (unraised xs (λ j b k e. let no : suc j ≡ 0 = only (suc j) b k e in absurd (omega arith)))
  raised_one (x ∷ xs) (suc i) depth a h is only =
      ap (λ (z : PairAt). z ∷ map f (raised_at xs i depth)) (sym (not_raised _ _ (f x) (not_true (is_same q.pair (f x).pair) (λ e. let no : 0 ≡ suc i = only 0 x refl e in absurd (omega arith)))))
      ∙ ap (λ (z : List PairAt). raised q (f x) ∷ z) (raised_one xs i depth a h is (λ j b k e. let more : suc j ≡ suc i = only (suc j) b k e in omega arith))

-- ---- keys

pub key_numbers : (m n : ℕ) (u v : List ℕ) → m < 2 ^ 64 → n < 2 ^ 64 → key_of m u ≡ key_of n v → (m ≡ n) × (u ≡ v)
key_numbers m n u v low high e =
    let heads : to_le_bytes w64 m ≡ to_le_bytes w64 n = sym (take-append_seam (to_le_bytes w64 m) u) ∙ ap (take 8) e ∙ take-append_seam (to_le_bytes w64 n) v in (
      sym (from_le_bytes-to_le_bytes_8 m low) ∙ ap (from_le_bytes w64) heads ∙ from_le_bytes-to_le_bytes_8 n high,
      append_cancel_left (to_le_bytes w64 n) u v (ap (λ (z : List ℕ). z ++ u) (sym heads) ∙ e),
    )

same_keys : (xs : List KeptPair) (i depth : ℕ) → map key (raised_at xs i depth) ≡ map key xs
same_keys [] i depth = refl
same_keys (a ∷ xs) zero depth = refl
same_keys (a ∷ xs) (suc i) depth = ap (λ (z : List (List ℕ)). key a ∷ z) (same_keys xs i depth)

-- an element of a list in which one is raised has the message of one of the list
raised_from : (xs : List KeptPair) (i depth j : ℕ) (b : KeptPair) → slice_get (raised_at xs i depth) j ≡ Some b → (a : KeptPair) × (slice_get xs j ≡ Some a) × (b.message ≡ a.message)
raised_from [] i depth j b h = absurd (let no : (let o : Option KeptPair = None in o) ≡ Some b = h in cc)
raised_from (a ∷ xs) zero depth zero b h = (a, refl, sym (ap (λ (z : KeptPair). z.message) (some_same (deepened depth a) b h)))
raised_from (a ∷ xs) zero depth (suc j) b h = (b, h, refl)
raised_from (a ∷ xs) (suc i) depth zero b h = (a, refl, sym (ap (λ (z : KeptPair). z.message) (some_same a b h)))
raised_from (a ∷ xs) (suc i) depth (suc j) b h = raised_from xs i depth j b h

-- ---- one more pair

module _ (l : Listing) (kept : IsKept l) (uri : List ℕ) (number : ℕ) (m : List ℕ) (depth : ℕ) (there : slice_get l.messages number ≡ Some m) (fits : number < 2 ^ 64) where
  abbrev wanted : PairAt
  wanted = record { pair = record { uri = uri; message = m }; depth = depth }

  -- a pair that is the same has the same key
  pub same_key : (j : ℕ) (a : KeptPair) → slice_get l.asked.items j ≡ Some a → is_same wanted.pair (pair_in l.messages a).pair ≡ true → key a ≡ key_of number uri
  same_key j a h e =
      let s = same_of wanted.pair (pair_in l.messages a).pair e in
      let here : slice_get l.messages a.message ≡ Some m = get_of_or l.messages a.message [] (kept.in_range j a h) ∙ ap Some (sym s.message) in
      let numbers : a.message ≡ number = kept.messages a.message number m here there in
      ap (λ (z : ℕ). key_of z a.uri) numbers ∙ ap (key_of number) (sym s.uri)

  pub key_at : (j : ℕ) (a : KeptPair) → slice_get l.asked.items j ≡ Some a → slice_get l.keys j ≡ Some (key a)
  key_at j a h = ap (λ (z : List (List ℕ)). slice_get z j) kept.keys_are ∙ get_map key l.asked.items j ∙ ap (option_map key) h

  pub key_same : (a : KeptPair) (j : ℕ) → slice_get l.asked.items j ≡ Some a → key a ≡ key_of number uri → is_same wanted.pair (pair_in l.messages a).pair ≡ true
  key_same a j h e =
      let k = key_numbers a.message number a.uri uri (kept.fits j a h) fits e in
      of_same wanted.pair (pair_in l.messages a).pair (record {
        uri = sym k.1;
        message = sym (or_of_get l.messages number m [] there) ∙ ap (λ (z : ℕ). get_or l.messages z []) (sym k.0);
      })

  -- ---- it is there

  module _ (place : ℕ) (at : slice_get l.keys place ≡ Some (key_of number uri)) where
    pub standing : (a : KeptPair) × (slice_get l.asked.items place ≡ Some a) × (key a ≡ key_of number uri)
    standing = get_mapped key l.asked.items place (key_of number uri) (ap (λ (z : List (List ℕ)). slice_get z place) (sym kept.keys_are) ∙ at)

    pub only : (j : ℕ) (b : KeptPair) → slice_get l.asked.items j ≡ Some b → is_same wanted.pair (pair_in l.messages b).pair ≡ true → j ≡ place
    only j b h e = kept.keys j place (key_of number uri) (key_at j b h ∙ ap Some (same_key j b h e)) at

    deeper : pair_in l.messages (deepened depth standing.0) ≡ raised wanted (pair_in l.messages standing.0)
    deeper = sym (is_raised _ _ (pair_in l.messages standing.0) (key_same standing.0 place standing.1 standing.2))

    any_same : list_any (λ q. is_same wanted.pair q.pair) (pairs_in l) ≡ true
    any_same = any_at (λ q. is_same wanted.pair q.pair) (pairs_in l) place (pair_in l.messages standing.0)
        (get_map (pair_in l.messages) l.asked.items place ∙ ap (option_map (pair_in l.messages)) standing.1) (key_same standing.0 place standing.1 standing.2)

    pub raised_there : map (pair_in l.messages) (raised_at l.asked.items place depth) ≡ with_pair wanted (pairs_in l)
    raised_there =
        raised_one (pair_in l.messages) wanted l.asked.items place depth standing.0 standing.1 deeper only
        ∙ sym (chosen (list_any (λ q. is_same wanted.pair q.pair) (pairs_in l)) _ _ any_same)

  -- ---- it is new

  module _ (keys : List (List ℕ)) (keys_are : keys ≡ l.keys ++ key_of number uri ∷ []) (distinct : AreDistinct keys) where
    pub nowhere : (j : ℕ) (b : KeptPair) → slice_get l.asked.items j ≡ Some b → is_same wanted.pair (pair_in l.messages b).pair ≡ true → ⊥
    nowhere j b h e =
        let before : slice_get l.keys j ≡ Some (key_of number uri) = key_at j b h ∙ ap Some (same_key j b h e) in
        let still : slice_get keys j ≡ Some (key_of number uri) = ap (λ (z : List (List ℕ)). slice_get z j) keys_are ∙ get_before l.keys (key_of number uri) (key_of number uri) j before in
        let last : slice_get keys (length l.keys) ≡ Some (key_of number uri) = ap (λ (z : List (List ℕ)). slice_get z (length l.keys)) keys_are ∙ get_last l.keys (key_of number uri) in
        let one : j ≡ length l.keys = distinct j (length l.keys) (key_of number uri) still last in
        let less : j < length l.keys = in_range l.keys (key_of number uri) j before in
        omega arith

    none_same : (j : ℕ) (q : PairAt) → slice_get (pairs_in l) j ≡ Some q → is_same wanted.pair q.pair ≡ true → ⊥
    none_same j q h e =
        let x = get_mapped (pair_in l.messages) l.asked.items j q h in
        nowhere j x.0 x.1 (ap (λ (z : PairAt). is_same wanted.pair z.pair) x.2 ∙ e)

    pub put_last : (a : KeptPair) → a.uri ≡ uri → a.message ≡ number → a.depth ≡ depth → map (pair_in l.messages) (l.asked.items ++ a ∷ []) ≡ with_pair wanted (pairs_in l)
    put_last a u n d =
        let message : get_or l.messages a.message [] ≡ m = ap (λ (z : ℕ). get_or l.messages z []) n ∙ or_of_get l.messages number m [] there in
        let one : pair_in l.messages a ≡ wanted = λ i. record { pair = record { uri = u i; message = message i }; depth = d i } in
        map-append (pair_in l.messages) l.asked.items (a ∷ [])
        ∙ ap (λ (z : PairAt). pairs_in l ++ z ∷ []) one
        ∙ sym (other (list_any (λ q. is_same wanted.pair q.pair) (pairs_in l)) _ _ (any_nowhere (λ q. is_same wanted.pair q.pair) (pairs_in l) none_same))

-- ---- what is put

test_true : (b : Bool) (i n : ℕ) → nat_lt i n ≡ b → i < n → b ≡ true
test_true true i n e h = refl
test_true false i n e h = let not_less : n ≤ i = ltb-false i n e in absurd (omega arith)

test_false : (b : Bool) (i n : ℕ) → nat_lt i n ≡ b → n ≤ i → b ≡ false
test_false false i n e h = refl
test_false true i n e h = let less : i < n = ltb-true i n e in absurd (omega arith)

if_true : (b : Bool) (xs ys : List KeptPair) → b ≡ true → cond b xs ys ≡ xs
if_true true xs ys h = refl
if_true false xs ys h = absurd cc

if_false : (b : Bool) (xs ys : List KeptPair) → b ≡ false → cond b xs ys ≡ ys
if_false true xs ys h = absurd cc
if_false false xs ys h = refl

put_low : (xs : List KeptPair) (i : ℕ) (a : KeptPair) → i < length xs → put_at xs i a ≡ raised_at xs i a.depth
put_low xs i a h = if_true (nat_lt i (length xs)) _ _ (test_true (nat_lt i (length xs)) i (length xs) refl h)

put_high : (xs : List KeptPair) (i : ℕ) (a : KeptPair) → length xs ≤ i → put_at xs i a ≡ xs ++ a ∷ []
put_high xs i a h = if_false (nat_lt i (length xs)) _ _ (test_false (nat_lt i (length xs)) i (length xs) refl h)

-- a pair that is raised where it is
pub raised_set : (xs : List KeptPair) (i depth : ℕ) (d : KeptPair) → i < length xs → (get_or xs i d).depth ≤ depth
    → slice_set xs i (record { uri = (get_or xs i d).uri; message = (get_or xs i d).message; depth = depth }) ≡ raised_at xs i depth
raised_set [] i depth d h low = absurd (omega arith)
raised_set (y ∷ xs) zero depth d h low = let same : depth ≡ max y.depth depth = omega arith in λ i. record { uri = y.uri; message = y.message; depth = same i } ∷ xs
raised_set (y ∷ xs) (suc i) depth d h low = ap (λ (z : List KeptPair). y ∷ z) (raised_set xs i depth d (omega arith) low)

pub raised_same : (xs : List KeptPair) (i depth : ℕ) (d : KeptPair) → i < length xs → depth ≤ (get_or xs i d).depth → xs ≡ raised_at xs i depth
raised_same [] i depth d h low = absurd (omega arith)
raised_same (y ∷ xs) zero depth d h low = let same : y.depth ≡ max y.depth depth = omega arith in λ i. record { uri = y.uri; message = y.message; depth = same i } ∷ xs
raised_same (y ∷ xs) (suc i) depth d h low = ap (λ (z : List KeptPair). y ∷ z) (raised_same xs i depth d (omega arith) low)

pub get_any : (xs : List KeptPair) (i : ℕ) (d e : KeptPair) → i < length xs → get_or xs i d ≡ get_or xs i e
get_any [] i d e h = absurd (omega arith)
get_any (y ∷ xs) zero d e h = refl
get_any (y ∷ xs) (suc i) d e h = get_any xs i d e (omega arith)

-- ---- together

module _ (l new : Listing) (kept : IsKept l) (place number depth : ℕ) (uri m : List ℕ) (a : KeptPair) (there : slice_get l.messages number ≡ Some m) (fits : number < 2 ^ 64)
    (messages : new.messages ≡ l.messages) (distinct : AreDistinct new.keys) (asked : new.asked.items ≡ put_at l.asked.items place a)
    (a_uri : a.uri ≡ uri) (a_number : a.message ≡ number) (a_depth : a.depth ≡ depth) where
  kept_count : length l.keys ≡ length l.asked.items
  kept_count = ap (λ (z : List (List ℕ)). length z) kept.keys_are ∙ length-map l.asked.items key

  range_new : (xs : List KeptPair) → new.asked.items ≡ xs → ((i : ℕ) (b : KeptPair) → slice_get xs i ≡ Some b → b.message < length l.messages)
      → (i : ℕ) (b : KeptPair) → slice_get new.asked.items i ≡ Some b → b.message < length new.messages
  range_new xs is all i b h =
      subst (λ (z : List (List ℕ)). b.message < length z) (sym messages) (all i b (ap (λ (z : List KeptPair). slice_get z i) (sym is) ∙ h))

  fits_new : (xs : List KeptPair) → new.asked.items ≡ xs → ((i : ℕ) (b : KeptPair) → slice_get xs i ≡ Some b → b.message < 2 ^ 64)
      → (i : ℕ) (b : KeptPair) → slice_get new.asked.items i ≡ Some b → b.message < 2 ^ 64
  fits_new xs is all i b h = all i b (ap (λ (z : List KeptPair). slice_get z i) (sym is) ∙ h)

  module _ (less : place < length l.keys) (same : new.keys ≡ l.keys) (at : slice_get new.keys place ≡ Some (key_of number uri)) where
    is_raised_list : new.asked.items ≡ raised_at l.asked.items place depth
    is_raised_list = asked ∙ put_low l.asked.items place a (omega (arith, kept_count)) ∙ ap (raised_at l.asked.items place) a_depth

    pub put_there : Adds l new (record { pair = record { uri = uri; message = m }; depth = depth })
    put_there = record {
      kept = record {
        messages = subst AreDistinct (sym messages) kept.messages;
        keys = distinct;
        keys_are = same ∙ kept.keys_are ∙ sym (same_keys l.asked.items place depth) ∙ ap (map key) (sym is_raised_list);
        in_range = range_new (raised_at l.asked.items place depth) is_raised_list (λ i b h.
            let x = raised_from l.asked.items place depth i b h in
            let low = kept.in_range i x.0 x.1 in
            subst (λ (z : ℕ). z < length l.messages) (sym x.2) low);
        fits = fits_new (raised_at l.asked.items place depth) is_raised_list (λ i b h.
            let x = raised_from l.asked.items place depth i b h in
            let low = kept.fits i x.0 x.1 in
            subst (λ (z : ℕ). z < 2 ^ 64) (sym x.2) low);
      };
      messages = messages;
      added =
          ap (λ (z : List (List ℕ)). map (pair_in z) new.asked.items) messages
          ∙ ap (map (pair_in l.messages)) is_raised_list
          ∙ raised_there l kept uri number m depth there fits place (ap (λ (z : List (List ℕ)). slice_get z place) (sym same) ∙ at);
    }

  module _ (last : place ≡ length l.keys) (more : new.keys ≡ l.keys ++ key_of number uri ∷ []) where
    is_longer : new.asked.items ≡ l.asked.items ++ a ∷ []
    is_longer = asked ∙ put_high l.asked.items place a (omega (arith, kept_count))

    key_is : key_of number uri ≡ key a
    key_is = ap (λ (z : ℕ). key_of z uri) (sym a_number) ∙ ap (key_of a.message) (sym a_uri)

    low_number : number < length l.messages
    low_number = in_range l.messages m number there

    pub put_after : Adds l new (record { pair = record { uri = uri; message = m }; depth = depth })
    put_after = record {
      kept = record {
        messages = subst AreDistinct (sym messages) kept.messages;
        keys = distinct;
        keys_are =
            more
            ∙ ap (λ (z : List ℕ). l.keys ++ z ∷ []) key_is
            ∙ ap (λ (z : List (List ℕ)). z ++ key a ∷ []) kept.keys_are
            ∙ sym (map-append key l.asked.items (a ∷ []))
            ∙ ap (map key) (sym is_longer);
        in_range = range_new (l.asked.items ++ a ∷ []) is_longer (λ i b h. elim (get_of_more l.asked.items a b i h) [
          | inl k ↦ kept.in_range i b k
          | inr k ↦ subst (λ (z : KeptPair). z.message < length l.messages) (sym k.is) (subst (λ (z : ℕ). z < length l.messages) (sym a_number) low_number)
        ]);
        fits = fits_new (l.asked.items ++ a ∷ []) is_longer (λ i b h. elim (get_of_more l.asked.items a b i h) [
          | inl k ↦ kept.fits i b k
          | inr k ↦ subst (λ (z : KeptPair). z.message < 2 ^ 64) (sym k.is) (subst (λ (z : ℕ). z < 2 ^ 64) (sym a_number) fits)
        ]);
      };
      messages = messages;
      added =
          ap (λ (z : List (List ℕ)). map (pair_in z) new.asked.items) messages
          ∙ ap (map (pair_in l.messages)) is_longer
          ∙ put_last l kept uri number m depth there fits new.keys more distinct a a_uri a_number a_depth;
    }

  pub put_one : IsNumbered l.keys new.keys (key_of number uri) place → Adds l new (record { pair = record { uri = uri; message = m }; depth = depth })
  put_one n = elim n.grown [
    | inl h ↦ put_there h.0 h.1 n.place
    | inr h ↦ put_after h.0 h.1
  ]

pub on_ok : {T E : Type 0} {A B : Type 0} (r : Result T E) → (A → B) → OnOk r A → OnOk r B
on_ok (Ok x) f h = f h
on_ok (Err e) f h = h
