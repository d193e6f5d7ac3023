-- A search among ranges that rise.
use Rattle.std.proofs.Common.{◌≡◌, ◌<◌, ◌≤◌, ℕ, ◌-◌, zero, suc, Bool, true, false, cond, List, [], ◌∷◌, length, take, drop, get_or, refl, sym, ◌∙◌, ap, arith}
use Rattle.std.proofs.lemmas.Bool.Decides.{nat_tests}
use Rattle.std.specs.Prelude.{None, Some, find, ◌==◌}
use Rattle.std.specs.List.{AllByRecursion}
use Rattle.ots_store.specs.declared.anchor.Anchor.{Anchor}
use Rattle.ots_store.specs.Order.{anchor_end, covers, covered_by}
use Rattle.ots_store.specs.Ranges.{RisesFrom, EndsBy, BeginsAfter, reach}
use Rattle.ots_store.proofs.Ordered.{reach_is}

-- each ends after the base
after_base : (base : ℕ) (anchors : List Anchor) (m : ℕ) (d : Anchor) → m < length anchors → RisesFrom base anchors → base < anchor_end (get_or anchors m d)
after_base base [] m d lt rises = absurd (omega arith)
after_base base (a ∷ anchors) zero d lt rises = rises.1
after_base base (a ∷ anchors) (suc m) d lt rises = let later = after_base (anchor_end a) anchors m d (omega arith) rises.2 in omega (arith, rises.1)

-- where one ends by an index, so do those before it
pub up_to : (base i : ℕ) (anchors : List Anchor) (m : ℕ) (d : Anchor) → m < length anchors → RisesFrom base anchors → anchor_end (get_or anchors m d) ≤ i → AllByRecursion (EndsBy i) (take (suc m) anchors)
up_to base i [] m d lt rises le = absurd (omega arith)
up_to base i (a ∷ anchors) zero d lt rises le = (le, tt)
up_to base i (a ∷ anchors) (suc m) d lt rises le =
    let later = after_base (anchor_end a) anchors m d (omega arith) rises.2 in
    (omega arith, up_to (anchor_end a) i anchors m d (omega arith) rises.2 le)

pub begins_at : (i : ℕ) (anchors : List Anchor) (m : ℕ) (d : Anchor) → m < length anchors → i < anchor_end (get_or anchors m d) → BeginsAfter i (drop m anchors)
begins_at i [] m d lt after = absurd (omega arith)
begins_at i (a ∷ anchors) zero d lt after = after
begins_at i (a ∷ anchors) (suc m) d lt after = begins_at i anchors m d (omega arith) after

covers_it : (i : ℕ) (a : Anchor) → a.first ≤ i → i < anchor_end a → covers i a ≡ true
covers_it i a begins ends = grind (arith, nat_tests)

covers_not : (i : ℕ) (a : Anchor) → anchor_end a ≤ i → covers i a ≡ false
covers_not i a ends = grind (arith, nat_tests)

-- the first that ends after an index is the first that covers it
pub found_at : (base i : ℕ) (anchors : List Anchor) (n : ℕ) (d : Anchor) → base ≤ i → RisesFrom base anchors → n < length anchors → AllByRecursion (EndsBy i) (take n anchors) → BeginsAfter i (drop n anchors)
    → find (covers i) anchors ≡ Some (get_or anchors n d)
found_at base i [] n d le rises lt all begins = absurd (omega arith)
found_at base i (a ∷ anchors) zero d le rises lt all begins = ap (λ (b : Bool). cond b (Some a) (find (covers i) anchors)) (covers_it i a (omega (arith, rises.0)) begins)
found_at base i (a ∷ anchors) (suc n) d le rises lt all begins =
    ap (λ (b : Bool). cond b (Some a) (find (covers i) anchors)) (covers_not i a all.0) ∙ found_at (anchor_end a) i anchors n d all.0 rises.2 (omega arith) all.1 begins

pub found_none : (i : ℕ) (anchors : List Anchor) (n : ℕ) → length anchors ≤ n → AllByRecursion (EndsBy i) (take n anchors) → find (covers i) anchors ≡ None
found_none i [] n le all = refl
found_none i (a ∷ anchors) zero le all = absurd (omega arith)
found_none i (a ∷ anchors) (suc n) le all = ap (λ (b : Bool). cond b (Some a) (find (covers i) anchors)) (covers_not i a all.0) ∙ found_none i anchors n (omega arith) all.1

last_reach : (base : ℕ) (a : Anchor) (anchors : List Anchor) (d : Anchor) → reach base (a ∷ anchors) ≡ anchor_end (get_or (a ∷ anchors) (length anchors) d)
last_reach base a [] d = refl
last_reach base a (b ∷ anchors) d = last_reach (anchor_end a) b anchors d

-- the last anchor reaches farthest
pub covered_is_last : (anchors : List Anchor) (d : Anchor) → 0 < length anchors → RisesFrom 0 anchors → covered_by anchors ≡ anchor_end (get_or anchors (length anchors - 1) d)
covered_is_last [] d some rises = absurd (omega arith)
covered_is_last (a ∷ anchors) d some rises =
    let place : length anchors ≡ suc (length anchors) - 1 = omega arith in
    let most : reach 0 (a ∷ anchors) ≡ covered_by (a ∷ anchors) = reach_is 0 (a ∷ anchors) rises ∙ omega arith in
    sym most ∙ last_reach 0 a anchors d ∙ ap (λ (n : ℕ). anchor_end (get_or (a ∷ anchors) n d)) place

pub some_there : (n : ℕ) → (n == 0) ≡ false → 0 < n
some_there zero none = absurd (cc)
some_there (suc n) none = omega arith
