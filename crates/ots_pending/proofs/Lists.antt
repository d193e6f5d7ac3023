-- Lists at places.
use Rattle.std.proofs.Common.{◌≡◌, ◌≢◌, ℕ, zero, suc, ◌<◌, ◌≤◌, Bool, true, false, List, [], ◌∷◌, map, length, get_or, take, Option, Some, None, refl, ap, ◌∙◌, arith}
use Rattle.std.specs.Prelude.{option_map, ◌||◌}
use Rattle.std.specs.List.{slice_get, list_any}

pub some_same : {X : Type 0} (x y : X) → (let o : Option X = Some x in o) ≡ Some y → x ≡ y
some_same x y e = cc

pub none_some : {X : Type 0} (y : X) → (let o : Option X = None in o) ≡ Some y → ⊥
none_some y e = absurd cc

pub get_map : {X Y : Type 0} (f : X → Y) (xs : List X) (i : ℕ) → slice_get (map f xs) i ≡ option_map f (slice_get xs i)
get_map f [] i = refl
get_map f (x ∷ xs) zero = refl
get_map f (x ∷ xs) (suc i) = get_map f xs i

pub get_there : {X : Type 0} (xs : List X) (i : ℕ) → i < length xs → (x : X) × (slice_get xs i ≡ Some x)
get_there [] i h = absurd (omega arith)
get_there (x ∷ xs) zero h = (x, refl)
get_there (x ∷ xs) (suc i) h = get_there xs i (omega arith)

-- no element is at a place: the list ends before
pub past_end : {X : Type 0} (xs : List X) (i : ℕ) → slice_get xs i ≡ None → length xs ≤ i
past_end [] i h = omega arith
past_end (x ∷ xs) zero h = absurd cc
past_end (x ∷ xs) (suc i) h = let less = past_end xs i h in omega arith

pub get_taken : {X : Type 0} (xs : List X) (k i : ℕ) (x : X) → slice_get (take k xs) i ≡ Some x → (slice_get xs i ≡ Some x) × (i < k)
get_taken xs zero i x h = absurd (none_some x h)
get_taken [] (suc k) i x h = absurd (none_some x h)
get_taken (y ∷ xs) (suc k) zero x h = (h, omega arith)
get_taken (y ∷ xs) (suc k) (suc i) x h = let r = get_taken xs k i x h in (r.0, (let less = r.1 in omega arith))

pub or_of_get : {X : Type 0} (xs : List X) (i : ℕ) (x d : X) → slice_get xs i ≡ Some x → get_or xs i d ≡ x
or_of_get [] i x d h = absurd (none_some x h)
or_of_get (y ∷ xs) zero x d h = some_same y x h
or_of_get (y ∷ xs) (suc i) x d h = or_of_get xs i x d h

pub get_of_or : {X : Type 0} (xs : List X) (i : ℕ) (d : X) → i < length xs → slice_get xs i ≡ Some (get_or xs i d)
get_of_or [] i d h = absurd (omega arith)
get_of_or (y ∷ xs) zero d h = refl
get_of_or (y ∷ xs) (suc i) d h = get_of_or xs i d (omega arith)

-- the element that a mapped list has at a place
pub get_mapped : {X Y : Type 0} (f : X → Y) (xs : List X) (i : ℕ) (y : Y) → slice_get (map f xs) i ≡ Some y → (x : X) × (slice_get xs i ≡ Some x) × (f x ≡ y)
get_mapped f [] i y h = absurd (none_some y h)
get_mapped f (x ∷ xs) zero y h = (x, refl, some_same (f x) y h)
get_mapped f (x ∷ xs) (suc i) y h = get_mapped f xs i y h

or_true : (b c : Bool) → c ≡ true → (b || c) ≡ true
or_true true c e = refl
or_true false c e = e

pub any_at : {X : Type 0} (test : X → Bool) (xs : List X) (i : ℕ) (x : X) → slice_get xs i ≡ Some x → test x ≡ true → list_any test xs ≡ true
any_at test [] i x h t = absurd (none_some x h)
any_at test (y ∷ xs) zero x h t = ap (λ (z : Bool). z || list_any test xs) (ap test (some_same y x h) ∙ t)
any_at test (y ∷ xs) (suc i) x h t = or_true (test y) (list_any test xs) (any_at test xs i x h t)

not_both : (b : Bool) → b ≢ true → b ≡ false
not_both true h = absurd (h refl)
not_both false h = refl

pub any_nowhere : {X : Type 0} (test : X → Bool) (xs : List X) → ((i : ℕ) (x : X) → slice_get xs i ≡ Some x → test x ≡ true → ⊥) → list_any test xs ≡ false
any_nowhere test [] none = refl
any_nowhere test (y ∷ xs) none =
    ap (λ (z : Bool). z || list_any test xs) (not_both (test y) (none 0 y refl)) ∙ any_nowhere test xs (λ i x h. none (suc i) x h)
