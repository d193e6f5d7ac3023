-- The order of keys.
use Rattle.std.proofs.Common.{◌≡◌, ◌<◌, ◌≤◌, ℕ, Bool, true, false, List, refl, sym, ◌∙◌, ap, arith}
use Rattle.std.proofs.lemmas.Cmp.{upto, tied_itself, then_total, on_total, nat_list_cmp_total, nat_cmp_total, ranked}
use Rattle.std.proofs.lemmas.Map.Text.{is_eq-slice_cmp}
use Rattle.std.proofs.lemmas.Slice.Eq.{bytes_eq-Decides}
use Rattle.std.specs.Cmp.{IsTotalOrder}
use Rattle.std.specs.declared.cmp.Ordering.TheVariants.{Less, Equal, Greater}
use Rattle.std.specs.declared.cmp.Ordering.{Ordering}
use Rattle.std.specs.Cmp.Lexicographic.{slice_cmp}
use Rattle.std.specs.Ordering.{MatchOrdering, nat_cmp, is_lt, is_eq, is_gt, ordering_then, ordering_reverse}
use Rattle.ots_store.specs.Places.{key_cmp}

pub key_total : IsTotalOrder key_cmp
key_total = then_total (on_total (λ (k : List ℕ × ℕ). k.0) nat_list_cmp_total) (on_total (λ (k : List ℕ × ℕ). k.1) nat_cmp_total)

turn : (o : Ordering) → is_lt (ordering_reverse o) ≡ is_gt o
turn Less = refl
turn Equal = refl
turn Greater = refl

pub lt_is_gt : (x y : List ℕ × ℕ) → is_lt (key_cmp x y) ≡ is_gt (key_cmp y x)
lt_is_gt x y = ap is_lt (key_total.antisymm x y) ∙ turn (key_cmp y x)

pub not_gt : (o : Ordering) → is_lt o ≡ true → is_gt o ≡ false
not_gt Less h = refl
not_gt Equal h = refl
not_gt Greater h = absurd (cc)

-- what is after a key that is not before another one is not either
pub after_chain : (x y k : List ℕ × ℕ) → is_lt (key_cmp x k) ≡ false → is_gt (key_cmp x y) ≡ false → is_lt (key_cmp y k) ≡ false
after_chain x y k from up = lt_is_gt y k ∙ upto key_total k x y (sym (lt_is_gt x k) ∙ from) up

before_by : (x y k : List ℕ × ℕ) (b : Bool) → is_lt (key_cmp x k) ≡ b → is_gt (key_cmp x y) ≡ false → is_lt (key_cmp y k) ≡ true → is_lt (key_cmp x k) ≡ true
before_by x y k true is up before = is
before_by x y k false is up before = absurd (let h : false ≡ true = sym (after_chain x y k is up) ∙ before in cc)

-- what is not after a key that is before another one is so too
pub before_chain : (x y k : List ℕ × ℕ) → is_gt (key_cmp x y) ≡ false → is_lt (key_cmp y k) ≡ true → is_lt (key_cmp x k) ≡ true
before_chain x y k up before = before_by x y k (is_lt (key_cmp x k)) refl up before

pub itself : (k : List ℕ × ℕ) → is_gt (key_cmp k k) ≡ false
itself k = ap is_gt (tied_itself key_total k)

-- ---- keys of one commitment

same_first : (c : List ℕ) (m n : ℕ) → key_cmp (c, m) (c, n) ≡ nat_cmp m n
same_first c m n = ap (λ (o : Ordering). ordering_then o (nat_cmp m n)) (tied_itself nat_list_cmp_total c)

lt_by : (m n : ℕ) (o : Ordering) → MatchOrdering o (m < n) (m ≡ n) (n < m) → is_lt o ≡ true → m < n
lt_by m n Less means h = means
lt_by m n Equal means h = absurd (cc)
lt_by m n Greater means h = absurd (cc)

le_by : (m n : ℕ) (o : Ordering) → MatchOrdering o (m < n) (m ≡ n) (n < m) → is_gt o ≡ false → m ≤ n
le_by m n Less means h = omega (arith, means)
le_by m n Equal means h = omega (arith, means)
le_by m n Greater means h = absurd (cc)

pub none_before : (c : List ℕ) (m : ℕ) → is_lt (key_cmp (c, m) (c, 0)) ≡ true → ⊥
none_before c m h = let lt = lt_by m 0 (nat_cmp m 0) (ranked m 0 (nat_cmp m 0) refl) (sym (ap is_lt (same_first c m 0)) ∙ h) in omega arith

pub places_rise : (c : List ℕ) (m n : ℕ) → is_gt (key_cmp (c, m) (c, n)) ≡ false → m ≤ n
places_rise c m n h = le_by m n (nat_cmp m n) (ranked m n (nat_cmp m n) refl) (sym (ap is_gt (same_first c m n)) ∙ h)

between : (o : Ordering) (a b : Ordering) → is_lt (ordering_then o a) ≡ false → is_gt (ordering_then o b) ≡ false → is_eq o ≡ true
between Less a b low high = absurd (cc)
between Equal a b low high = refl
between Greater a b low high = absurd (cc)

-- a key that is from the first one of a commitment on and not after one of this commitment is of this commitment
pub same_commitment : (d c : List ℕ) (p m : ℕ) → is_lt (key_cmp (d, p) (c, 0)) ≡ false → is_gt (key_cmp (d, p) (c, m)) ≡ false → d ≡ c
same_commitment d c p m low high = (bytes_eq-Decides d c).0 (sym (is_eq-slice_cmp d c) ∙ between (slice_cmp nat_cmp d c) (nat_cmp p 0) (nat_cmp p m) low high)
