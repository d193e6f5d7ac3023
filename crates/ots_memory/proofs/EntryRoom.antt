-- Lemmas on the memory of entries.
use Rattle.std.proofs.Common.{◌≡◌, ◌+◌, List, [], ◌∷◌, ◌++◌, length, All, refl, subst, arith}
use Rattle.std.proofs.lemmas.List.{get_or_append_left, get_or_push, length_push}

pub All-front : {X : Type 0} (P : X → Type 0) (xs : List X) (x : X) → All P (xs ++ x ∷ []) → All P xs
All-front P xs x all = λ k d below.
    let long : length (xs ++ x ∷ []) ≡ length xs + 1 = length_push xs x in
    subst P (get_or_append_left xs (x ∷ []) d k below) (all k d (omega arith))

pub All-last : {X : Type 0} (P : X → Type 0) (xs : List X) (x : X) → All P (xs ++ x ∷ []) → P x
All-last P xs x all =
    let long : length (xs ++ x ∷ []) ≡ length xs + 1 = length_push xs x in
    subst P (get_or_push xs x x (length xs) refl) (all (length xs) x (omega arith))
