-- The line of one item more.
use Rattle.std.proofs.Common.{◌≡◌, ℕ, zero, suc, ◌+◌, ◌<◌, List, [], ◌∷◌, ◌++◌, length, get_or, take, zip, sym, ap, ◌∙◌, append-nil, add-one, min, arith}
use Rattle.std.proofs.lemmas.Slice.Zip.{length-zip}
use Rattle.std.proofs.Math.Seq.{take-suc}
use Rattle.std.proofs.lemmas.List.Concat.{flat_map-append}
use Rattle.std.specs.List.{flat_map}

pub one_more : {A : Type 0} (f : A → List ℕ) (xs : List A) (i : ℕ) (x : A) → i < length xs → x ≡ get_or xs i x
    → flat_map f (take i xs) ++ f x ≡ flat_map f (take (i + 1) xs)
one_more {A} f xs i x in_range is =
    ap (λ (z : List ℕ). flat_map f (take i xs) ++ z) (sym (append-nil (f x)))
    ∙ sym (flat_map-append f (take i xs) (x ∷ []))
    ∙ ap (λ (z : A). flat_map f (take i xs ++ z ∷ [])) is
    ∙ ap (flat_map f) (sym (rw add-one (take-suc xs i x in_range)))

module _ {A B : Type 0} where
  same_pair : (p q : A × B) → p.0 ≡ q.0 → p.1 ≡ q.1 → p ≡ q
  same_pair p q first second = λ i. (first i, second i)

  zip_at : (xs : List A) (ys : List B) (i : ℕ) (p : A × B) → length ys ≡ length xs → i < length ys → p.0 ≡ get_or xs i p.0 → p.1 ≡ get_or ys i p.1
      → p ≡ get_or (zip xs ys) i p
  zip_at xs [] i p same in_range first second = absurd (omega arith)
  zip_at [] (y ∷ ys) i p same in_range first second = absurd (omega arith)
  zip_at (x ∷ xs) (y ∷ ys) zero p same in_range first second = same_pair p (x, y) first second
  zip_at (x ∷ xs) (y ∷ ys) (suc i) p same in_range first second = zip_at xs ys i p (omega arith) (omega arith) first second

  pub zip_length : (xs : List A) (ys : List B) → length ys ≡ length xs → length (zip xs ys) ≡ length ys
  zip_length xs ys same = length-zip xs ys ∙ ap (λ (n : ℕ). min n (length ys)) (sym same) ∙ omega arith

  pub one_pair_more : (f : A × B → List ℕ) (xs : List A) (ys : List B) (i : ℕ) (p : A × B) → length ys ≡ length xs → i < length ys
      → p.0 ≡ get_or xs i p.0 → p.1 ≡ get_or ys i p.1 → flat_map f (take i (zip xs ys)) ++ f p ≡ flat_map f (take (i + 1) (zip xs ys))
  one_pair_more f xs ys i p same in_range first second =
      let all = zip_length xs ys same in one_more f (zip xs ys) i p (omega (arith, all)) (zip_at xs ys i p same in_range first second)
