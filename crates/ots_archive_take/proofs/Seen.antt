-- Names that were seen.
use Rattle.std.proofs.Common.{◌≡◌, ◌<◌, ◌≤◌, ◌+◌, ◌⊎◌, ℕ, zero, suc, Bool, Bor, true, false, cond, List, [], ◌∷◌, Some, length, take, refl, sym, ap, subst, ◌∙◌, arith, inl, inr}
use Rattle.std.specs.Prelude.{not}
use Rattle.std.specs.BTreeMap.{is_at}
use Rattle.std.specs.BTreeSet.{BTreeSet, contains}
use Rattle.std.specs.Cmp.Lexicographic.{slice_cmp}
use Rattle.std.specs.List.{slice_get}
use Rattle.std.specs.Ordering.{is_eq, nat_cmp, ordering_then}
use Rattle.std.specs.declared.cmp.Ordering.{Ordering}
use Rattle.std.specs.declared.cmp.Ordering.TheVariants.{Less, Equal, Greater}
use Rattle.std.proofs.lemmas.Cmp.{nat_list_cmp_total, tied_itself}
use Rattle.std.proofs.lemmas.Map.Lookups.{exact_unsigned}
use Rattle.ots_sheet.proofs.Words.{le_or_lt}
use Rattle.ots_archive_take.specs.Names.{AreDistinct, IsTwice}

-- ---- texts in order

-- the order of references to texts
abbrev pub order : Bor (List ℕ) → Bor (List ℕ) → Ordering
order a b = slice_cmp nat_cmp a.now b.now

same_then : (x y : ℕ) (o : Ordering) → ordering_then (nat_cmp x y) o ≡ Equal → (x ≡ y) × (o ≡ Equal)
same_then x y o h =
    elim (nat_cmp x y) as (λ (z : Ordering). nat_cmp x y ≡ z → ordering_then z o ≡ Equal → (x ≡ y) × (o ≡ Equal)) [
      | Less ↦ λ is e. absurd cc
      | Equal ↦ λ is e. (exact_unsigned x y is, e)
      | Greater ↦ λ is e. absurd cc
    ] refl h

same_text : (a b : List ℕ) → slice_cmp nat_cmp a b ≡ Equal → a ≡ b
same_text [] [] h = refl
same_text [] (y ∷ ys) h = absurd cc
same_text (x ∷ xs) [] h = absurd cc
same_text (x ∷ xs) (y ∷ ys) h =
    let both = same_then x y (slice_cmp nat_cmp xs ys) h in
    (λ i. both.0 i ∷ same_text xs ys both.1 i)

is_equal : (o : Ordering) → is_eq o ≡ true → o ≡ Equal
is_equal Less h = absurd cc
is_equal Equal h = refl
is_equal Greater h = absurd cc

-- ---- places

-- a text stands before this place
pub record Has (names : List (List ℕ)) (i : ℕ) (text : List ℕ) : Type 0 where
  pub place : ℕ
  pub before : place < i
  pub at : slice_get names place ≡ Some text

get_take : (names : List (List ℕ)) (n j : ℕ) (x : List ℕ) → slice_get (take n names) j ≡ Some x → (j < n) × (slice_get names j ≡ Some x)
get_take [] zero j x is = absurd cc
get_take [] (suc n) j x is = absurd cc
get_take (y ∷ names) zero j x is = absurd cc
get_take (y ∷ names) (suc n) zero x is = (omega arith, is)
get_take (y ∷ names) (suc n) (suc j) x is = let rest = get_take names n j x is in (let less = rest.0 in omega (arith, less), rest.1)

within : (names : List (List ℕ)) (j : ℕ) (x : List ℕ) → slice_get names j ≡ Some x → j < length names
within [] j x is = absurd cc
within (y ∷ names) zero x is = omega arith
within (y ∷ names) (suc j) x is = let rest = within names j x is in omega (arith, rest)

-- ---- what is kept

-- The set has the names before this place, and no two of them are the same.
pub record Seen (names : List (List ℕ)) (i : ℕ) (seen : BTreeSet (Bor (List ℕ))) : Type 0 where
  pub has : (q : Bor (List ℕ)) → contains order seen q ≡ true → Has names i q.now
  pub kept : (q : Bor (List ℕ)) → Has names i q.now → contains order seen q ≡ true
  pub apart : (name : List ℕ) (a b : ℕ) → a < b → b < i → slice_get names a ≡ Some name → slice_get names b ≡ Some name → ⊥

pub none_seen : (names : List (List ℕ)) (seen : BTreeSet (Bor (List ℕ))) → seen.keys ≡ [] → Seen names 0 seen
none_seen names seen empty = record {
  has = λ q there. let e : false ≡ true = sym (ap (λ (ks : List (Bor (List ℕ))). contains order (record { keys = ks }) q) empty) ∙ there in absurd cc;
  kept = λ q h. let less = h.before in absurd (omega (arith, less));
  apart = λ name a b less under. absurd (omega (arith, less, under));
}

pub is_twice : (names : List (List ℕ)) (i : ℕ) (seen : BTreeSet (Bor (List ℕ))) (k : Bor (List ℕ)) → Seen names i seen → slice_get names i ≡ Some k.now
    → false ≡ not (contains order seen k) → IsTwice names i
is_twice names i seen k s at old =
    let there : contains order seen k ≡ true = elim (contains order seen k) as (λ (t : Bool). false ≡ not t → t ≡ true) [ true ↦ λ e. refl | false ↦ λ e. absurd cc ] old in
    let h = s.has k there in
    record {
      name = k.now;
      at = at;
      earlier = h.place;
      before = h.before;
      there = h.at;
      first = λ name a b less first second. s.apart name a b less (get_take names i b name second).0 (get_take names i a name first).1 (get_take names i b name second).1;
    }

pub seen_next : (names : List (List ℕ)) (i : ℕ) (seen more : BTreeSet (Bor (List ℕ))) (k : Bor (List ℕ)) → Seen names i seen → slice_get names i ≡ Some k.now
    → true ≡ not (contains order seen k) → ((q : Bor (List ℕ)) → contains order more q ≡ cond (is_at (order k) q) true (contains order seen q)) → Seen names (i + 1) more
seen_next names i seen more k s at new adds =
    let absent : contains order seen k ≡ true → ⊥ = elim (contains order seen k) as (λ (t : Bool). true ≡ not t → t ≡ true → ⊥) [ true ↦ λ e f. cc | false ↦ λ e f. cc ] new in
    record {
      has = λ q there. elim (is_at (order k) q) as (λ (t : Bool). is_at (order k) q ≡ t → cond t true (contains order seen q) ≡ true → Has names (i + 1) q.now) [
        | true ↦ λ e f. record { place = i; before = omega arith; at = at ∙ ap Some (same_text k.now q.now (is_equal (order k q) e)) }
        | false ↦ λ e f. let h = s.has q f in record { place = h.place; before = let less = h.before in omega (arith, less); at = h.at }
      ] refl (sym (adds q) ∙ there);
      kept = λ q h. adds q ∙ elim (is_at (order k) q) as (λ (t : Bool). is_at (order k) q ≡ t → cond t true (contains order seen q) ≡ true) [
        | true ↦ λ e. refl
        | false ↦ λ e. s.kept q (record {
          place = h.place;
          before = elim (less_or_same h.place i h.before) [
            | inl less ↦ less
            | inr same ↦ absurd (let texts : k.now ≡ q.now = one_some (sym at ∙ ap (slice_get names) (sym same) ∙ h.at) in
                let equal : is_at (order k) q ≡ true = subst (λ (z : List ℕ). is_eq (slice_cmp nat_cmp k.now z) ≡ true) texts (ap is_eq (tied_itself nat_list_cmp_total k.now)) in
                let e2 : false ≡ true = sym e ∙ equal in cc)
          ];
          at = h.at;
        })
      ] refl;
      apart = λ name a b less under first second. elim (less_or_same b i under) [
        | inl before ↦ s.apart name a b less before first second
        | inr same ↦ absent (s.kept k (record { place = a; before = omega (arith, less, same); at = first ∙ ap Some (one_some (sym second ∙ ap (slice_get names) same ∙ at)) }))
      ];
    }
  where
    less_or_same : (a b : ℕ) → a < b + 1 → (a < b) ⊎ (a ≡ b)
    less_or_same a b less = elim (le_or_lt b a) [ inl le ↦ inr (omega (arith, less, le)) | inr lt ↦ inl lt ]

    one_some : {x y : List ℕ} → Some x ≡ Some y → x ≡ y
    one_some e = cc

pub all_apart : (names : List (List ℕ)) (i : ℕ) (seen : BTreeSet (Bor (List ℕ))) → length names ≤ i → Seen names i seen → AreDistinct names
all_apart names i seen whole s = λ name a b less first second. s.apart name a b less (let w = within names b name second in omega (arith, w, whole)) first second
