-- A list in pieces of one size.
use Rattle.std.proofs.Common.{◌≡◌, ℕ, zero, suc, ◌+◌, ◌*◌, ◌<◌, ◌≤◌, List, [], ◌∷◌, ◌++◌, length, map, set, take, drop, refl, ap, arith, add-one, take-suc-set, length-drop, zero-add, suc-add, mul-zero}
use Rattle.std.proofs.lemmas.List.{drop-drop, map-append, take-append-le, drop-append-le}
use Rattle.ots_ripemd.specs.Ripemd160.{pieces}

-- some pieces, and more after them
pub pieces-add : (size m n : ℕ) (xs : List ℕ) → pieces size (m + n) xs ≡ pieces size m xs ++ pieces size n (drop (size * m) xs)
unfolding pieces
pieces-add size zero n xs = rw (zero-add, mul-zero) refl
pieces-add size (suc m) n xs =
    let further : size + size * m ≡ size * suc m = omega arith in
    rw (suc-add, ← further, ← drop-drop (size * m) size xs) (ap (λ (rest : List (List ℕ)). take size xs ∷ rest) (pieces-add size m n (drop size xs)))

pub pieces_next : (size count : ℕ) (xs : List ℕ) → pieces size (count + 1) xs ≡ pieces size count xs ++ take size (drop (size * count) xs) ∷ []
unfolding pieces
pieces_next size count xs = pieces-add size count 1 xs

-- the pieces are those of the part that they cover
pub pieces-append : (size n : ℕ) (xs ys : List ℕ) → size * n ≤ length xs → pieces size n (xs ++ ys) ≡ pieces size n xs
unfolding pieces
pieces-append size zero xs ys fits = refl
pieces-append size (suc n) xs ys fits =
    let first : size ≤ length xs = omega arith in
    let others : size * n ≤ length (drop size xs) = omega (arith, length-drop size xs) in
    rw (take-append-le size xs ys first, drop-append-le size xs ys first, pieces-append size n (drop size xs) ys others) refl

-- a list that is filled from the pieces, each mapped to a number
pub filled_next : (f : List ℕ → ℕ) (size : ℕ) (filled xs : List ℕ) (i n : ℕ) → take i filled ≡ map f (pieces size i xs) → i < length filled
    → n ≡ f (take size (drop (size * i) xs)) → take (i + 1) (set filled i n) ≡ map f (pieces size (i + 1) xs)
filled_next f size filled xs i n held low e =
    rw (pieces_next size i xs, map-append, ← held, ← e, add-one) (take-suc-set filled i n low)
