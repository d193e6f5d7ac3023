-- Two lists side by side have as many pairs as the shorter list has items.
use Rattle.std.proofs.Common.{◌≡◌, ℕ, zero, suc, List, [], ◌∷◌, length, take, zip, min, refl, ap, arith}

pub zip_up_to : {A B : Type 0} (xs : List A) (ys : List B) (n : ℕ) → n ≡ min (length xs) (length ys) → zip (take n xs) (take n ys) ≡ zip xs ys
zip_up_to [] ys zero is = refl
zip_up_to [] ys (suc n) is = refl
zip_up_to (x ∷ xs) [] zero is = refl
zip_up_to (x ∷ xs) [] (suc n) is = refl
zip_up_to (x ∷ xs) (y ∷ ys) zero is = absurd (omega (arith, is))
zip_up_to (x ∷ xs) (y ∷ ys) (suc n) is = ap (λ z. (x, y) ∷ z) (zip_up_to xs ys n (omega (arith, is)))
