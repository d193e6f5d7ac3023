-- Items of lists, by their places.
use Rattle.std.proofs.Common.{◌≡◌, ◌<◌, ◌+◌, ℕ, zero, suc, List, [], ◌∷◌, ◌++◌, Some, length, map, take, drop, get_or, refl, sym, ap, ◌∙◌, add-one, arith}
use Rattle.std.specs.List.{AllByRecursion, slice_get}
use Rattle.std.proofs.Math.Seq.{take-suc}

-- one item more
pub take_more : {X : Type 0} (xs : List X) (i : ℕ) (d : X) → i < length xs → take (i + 1) xs ≡ take i xs ++ get_or xs i d ∷ []
take_more {X} xs i d less = ap (λ (z : ℕ). take z xs) (add-one i) ∙ take-suc xs i d less

-- and what holds of all
pub all_more : {X : Type 0} (P : X → Type 0) (xs : List X) (x : X) → AllByRecursion P xs → P x → AllByRecursion P (xs ++ x ∷ [])
all_more P [] x all one = (one, tt)
all_more P (y ∷ xs) x all one = (all.0, all_more P xs x all.1 one)

-- an item, where it is in reach
pub got : {X : Type 0} (xs : List X) (i : ℕ) (x : X) → i < length xs → x ≡ get_or xs i x → slice_get xs i ≡ Some x
got [] i x less is = absurd (omega (arith, less))
got (y ∷ xs) zero x less is = ap Some (sym is)
got (y ∷ xs) (suc i) x less is = got xs i x (omega (arith, less)) is

-- what is made of it
pub got_of : {X Y : Type 0} (f : X → Y) (xs : List X) (i : ℕ) (d : X) → i < length xs → slice_get (map f xs) i ≡ Some (f (get_or xs i d))
got_of f [] i d less = absurd (omega (arith, less))
got_of f (y ∷ xs) zero d less = refl
got_of f (y ∷ xs) (suc i) d less = got_of f xs i d (omega (arith, less))

split_suc : {X : Type 0} (xs : List X) (i : ℕ) (x : X) → slice_get xs i ≡ Some x → xs ≡ take i xs ++ x ∷ drop (suc i) xs
split_suc [] i x is = cc
split_suc (y ∷ xs) zero x is = ap (λ z. z ∷ xs) cc
split_suc (y ∷ xs) (suc i) x is = ap (λ z. y ∷ z) (split_suc xs i x is)

-- items around one
pub split_at : {X : Type 0} (xs : List X) (i : ℕ) (x : X) → slice_get xs i ≡ Some x → xs ≡ take i xs ++ x ∷ drop (i + 1) xs
split_at {X} xs i x is = split_suc xs i x is ∙ ap (λ (n : ℕ). take i xs ++ x ∷ drop n xs) (sym (add-one i))

up_to_suc : {X : Type 0} (xs : List X) (i : ℕ) (x : X) → slice_get xs i ≡ Some x → take (suc i) xs ≡ take i xs ++ x ∷ []
up_to_suc [] i x is = cc
up_to_suc (y ∷ xs) zero x is = ap (λ z. z ∷ []) cc
up_to_suc (y ∷ xs) (suc i) x is = ap (λ z. y ∷ z) (up_to_suc xs i x is)

-- items up to one
pub up_to : {X : Type 0} (xs : List X) (i : ℕ) (x : X) → slice_get xs i ≡ Some x → take (i + 1) xs ≡ take i xs ++ x ∷ []
up_to {X} xs i x is = ap (λ (n : ℕ). take n xs) (add-one i) ∙ up_to_suc xs i x is
