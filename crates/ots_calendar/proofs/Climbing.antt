-- Loops: up a branch, one neighbour after another, and over what is made of a list.
use Rattle.std.proofs.Common.{◌≡◌, ℕ, suc, ◌+◌, ◌<◌, List, [], ◌∷◌, length, take, drop, map, get_or, zero, refl, ◌++◌, sym, ap, ◌∙◌, arith}
use Rattle.std.proofs.Math.Seq.{drop-cons}
use Rattle.ots_merkle.specs.BlockTree.{above, climbed}
use Rattle.ots_merkle.specs.declared.branch.Side.{Side}

pub climb_more : (branch : List (Side × List ℕ)) (i : ℕ) (hash reached : List ℕ) (d : Side × List ℕ) → i < length branch → reached ≡ above (get_or branch i d) hash
    → climbed (drop (i + 1) branch) reached ≡ climbed (drop i branch) hash
climb_more branch i hash reached d less is =
    ap (λ (n : ℕ). climbed (drop n branch) reached) (let e : i + 1 ≡ suc i = omega arith in e)
    ∙ ap (climbed (drop (suc i) branch)) is
    ∙ ap (λ (l : List (Side × List ℕ)). climbed l hash) (sym (drop-cons branch i d less))

mapped : {A B : Type 0} (f : A → B) (xs : List A) (i : ℕ) (d : A) → i < length xs → take (suc i) (map f xs) ≡ take i (map f xs) ++ f (get_or xs i d) ∷ []
mapped f [] i d less = absurd (omega arith)
mapped f (x ∷ xs) zero d less = refl
mapped f (x ∷ xs) (suc i) d less = ap (λ (l : List _). f x ∷ l) (mapped f xs i d (omega arith))

pub mapped_more : {A B : Type 0} (f : A → B) (xs : List A) (i : ℕ) (d : A) → i < length xs → take (i + 1) (map f xs) ≡ take i (map f xs) ++ f (get_or xs i d) ∷ []
mapped_more f xs i d less = ap (λ (n : ℕ). take n (map f xs)) (let e : i + 1 ≡ suc i = omega arith in e) ∙ mapped f xs i d less
