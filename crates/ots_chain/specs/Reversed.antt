-- Bytes from the last to the first are bytes.
use Rattle.std.specs.Prelude.{◌<◌, ℕ, zero, suc, List, [], ◌∷◌, ◌++◌, reverse}
use Rattle.std.proofs.Common.{sym, subst, get_or, lit<}
use Rattle.std.proofs.lemmas.List.{reverse-append}

abbrev pub AreBytes : List ℕ → Type 0
AreBytes l = (i : ℕ) → get_or l i 0 < 256

bytes_append : (x y : List ℕ) → AreBytes x → AreBytes y → AreBytes (x ++ y)
bytes_append [] y left right i = right i
bytes_append (a ∷ x) y left right zero = left zero
bytes_append (a ∷ x) y left right (suc i) = bytes_append x y (λ j. left (suc j)) right i

bytes_one : (x : ℕ) → x < 256 → AreBytes (x ∷ [])
bytes_one x h zero = h
bytes_one x h (suc i) = lit< tt

pub bytes_reverse : (l : List ℕ) → AreBytes l → AreBytes (reverse l)
bytes_reverse [] h = h
bytes_reverse (x ∷ xs) h =
    subst AreBytes (sym (reverse-append (x ∷ []) xs))
    (bytes_append (reverse xs) (x ∷ []) (bytes_reverse xs (λ i. h (suc i))) (bytes_one x (h 0)))
