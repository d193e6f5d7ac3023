-- Lines, one after another.
use Rattle.std.proofs.Common.{◌≡◌, ◌<◌, ◌≤◌, ◌+◌, ℕ, List, [], ◌∷◌, ◌++◌, length, map, take, get_or, refl, sym, ap, subst, ◌∙◌, arith, append_assoc, Option}
use Rattle.std.specs.Prelude.{codes, decimal}
use Rattle.std.specs.List.{AllByRecursion}
use Rattle.std.proofs.lemmas.List.{length-map, map-append, take_all, take_more}
use Rattle.ots_outside.specs.Streams.{Takes, TakesPrefix}
use Rattle.ots_sheet.specs.declared.request.Request.{Request}
use Rattle.ots_sheet.specs.Request.{request_line, request_parts}
use Rattle.ots_sheet.specs.Sheet.{lines_text, request_sheet}
use Rattle.hex.specs.Hex.{encode_lower}
use Rattle.sha2.specs.Sha256.{sha256}
use Rattle.ots_sheet.proofs.Words.{HasNo, same_until}

pub lines_append : (xs ys : List (List ℕ)) → lines_text (xs ++ ys) ≡ lines_text xs ++ lines_text ys
lines_append [] ys = refl
lines_append (x ∷ xs) ys = ap (λ (z : List ℕ). x ++ 10 ∷ z) (lines_append xs ys) ∙ sym (append_assoc x (10 ∷ lines_text xs) (lines_text ys))

-- the lines are those up to their feeds
pub same_lines : (xs ys : List (List ℕ)) → AllByRecursion (HasNo 10) xs → AllByRecursion (HasNo 10) ys → lines_text xs ≡ lines_text ys → xs ≡ ys
same_lines [] [] p q same = refl
same_lines [] (y ∷ ys) p q same = absurd (nothing y (lines_text ys) same)
  where
    nothing : (y rest : List ℕ) → [] ≡ y ++ 10 ∷ rest → ⊥
    nothing [] rest same = absurd cc
    nothing (b ∷ y) rest same = absurd cc
same_lines (x ∷ xs) [] p q same = absurd (nothing x (lines_text xs) same)
  where
    nothing : (x rest : List ℕ) → x ++ 10 ∷ rest ≡ [] → ⊥
    nothing [] rest same = absurd cc
    nothing (b ∷ x) rest same = absurd cc
same_lines (x ∷ xs) (y ∷ ys) p q same =
    let parts = same_until 10 x y (lines_text xs) (lines_text ys) p.0 q.0 same in
    let rest = same_lines xs ys p.1 q.1 parts.1 in
    λ i. parts.0 i ∷ rest i

pub one_more : {A B : Type 0} (g : A → B) (f : B → List ℕ) (xs : List A) (i : ℕ) (d : A) → i < length xs
    → lines_text (map f (map g (take i xs))) ++ (f (g (get_or xs i d)) ++ 10 ∷ []) ≡ lines_text (map f (map g (take (i + 1) xs)))
one_more {A} {B} g f xs i d less =
    sym (lines_append (map f (map g (take i xs))) (f (g (get_or xs i d)) ∷ []))
    ∙ ap lines_text (sym (map-append f (map g (take i xs)) (g (get_or xs i d) ∷ [])))
    ∙ ap (λ (z : List B). lines_text (map f z)) (sym (map-append g (take i xs) (get_or xs i d ∷ [])))
    ∙ ap (λ (z : List A). lines_text (map f (map g z))) (sym (take_more xs i d less))

pub then_more : (old new text piece all : List ℕ) → new ≡ old ++ piece → old ≡ text → text ++ piece ≡ all → new ≡ all
then_more old new text piece all is was more = is ∙ ap (λ (z : List ℕ). z ++ piece) was ∙ more

-- the sum's pieces
pub sum_pieces : (lines digits : List ℕ) (count sum : List ℕ) → sum ≡ digits
    → ((((lines ++ codes "sum ") ++ count) ++ 32 ∷ []) ++ sum) ++ 10 ∷ [] ≡ lines ++ ((codes "sum " ++ (count ++ 32 ∷ digits)) ++ 10 ∷ [])
sum_pieces lines digits count sum is = rw is (simp append_assoc)

-- a line in pieces, of which the first is told in other words
pub line_pieces : (word shown url digits : List ℕ) → shown ≡ word
    → (((((shown ++ 32 ∷ []) ++ url) ++ 32 ∷ []) ++ digits) ++ 10 ∷ []) ≡ (word ++ 32 ∷ (url ++ 32 ∷ digits)) ++ 10 ∷ []
line_pieces word shown url digits is = ap (λ (z : List ℕ). z ++ 10 ∷ []) (rw is (simp append_assoc))

-- all of a text is a prefix of it
pub taken_prefix : (old new : Option (List ℕ)) (text : List ℕ) → Takes old new text → TakesPrefix old new text
taken_prefix old new text took = (length text, omega arith, subst (Takes old new) (sym (take_all (length text) text (omega arith))) took)

-- the pieces of a whole sheet
pub sheet_pieces : (requests : List Request) (i : ℕ) (sum digest : List ℕ) → length requests ≤ i → sum ≡ lines_text (map request_line (map request_parts (take i requests)))
    → digest ≡ sha256 sum
    → ((((lines_text (map request_line (map request_parts (take i requests))) ++ codes "sum ") ++ decimal (length requests)) ++ 32 ∷ []) ++ encode_lower digest) ++ 10 ∷ []
    ≡ request_sheet (map request_parts requests)
sheet_pieces requests i sum digest all is hashed =
    let taken : take i requests ≡ requests = take_all i requests all in
    let lines = map request_line (map request_parts requests) in
    let count : length requests ≡ length lines = sym (length-map (map request_parts requests) request_line ∙ length-map requests request_parts) in
    let text : lines_text (map request_line (map request_parts (take i requests))) ≡ lines_text lines = ap (λ (z : List Request). lines_text (map request_line (map request_parts z))) taken in
    (λ k. ((((text k ++ codes "sum ") ++ decimal (count k)) ++ 32 ∷ []) ++ encode_lower digest) ++ 10 ∷ [])
    ∙ sum_pieces (lines_text lines) (encode_lower (sha256 (lines_text lines))) (decimal (length lines)) (encode_lower digest) (ap encode_lower (hashed ∙ ap sha256 (is ∙ text)))
