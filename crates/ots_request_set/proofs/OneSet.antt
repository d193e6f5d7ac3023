-- Lists in order that have the same requests.
use Rattle.std.proofs.Common.{◌≡◌, ◌<◌, ◌↔◌, ◌⊎◌, ℕ, zero, suc, List, [], ◌∷◌, length, get_or, refl, sym, ap, subst, ◌∙◌, arith, inl, inr}
use Rattle.std.specs.Cmp.Lexicographic.{slice_cmp}
use Rattle.std.specs.Ordering.{nat_cmp}
use Rattle.std.specs.declared.cmp.Ordering.TheVariants.{Less}
use Rattle.std.proofs.lemmas.Cmp.{nat_list_cmp_total}
use Rattle.ots_sheet.specs.Request.{RequestParts, request_line}
use Rattle.ots_sheet.specs.Sheet.{AreInOrder}
use Rattle.ots_request_set.specs.RequestSet.{Has}
use Rattle.ots_request_set.proofs.Texts.{not_itself}

-- a request comes before another
abbrev Before : RequestParts → RequestParts → Type 0
Before a b = slice_cmp nat_cmp (request_line a) (request_line b) ≡ Less

tail : (x : RequestParts) (xs : List RequestParts) → AreInOrder (x ∷ xs) → AreInOrder xs
tail x xs o = λ r i j less within. o r (suc i) (suc j) (omega (arith, less)) (omega (arith, within))

above : (xs : List RequestParts) (x : RequestParts) → ((j : ℕ) (r : RequestParts) → j < length xs → Before x (get_or xs j r)) → (q : RequestParts) → Has xs q → Before x q
above [] x all q has = absurd has
above (y ∷ xs) x all q has = elim has [
  | inl e ↦ subst (Before x) e (all 0 y (omega arith))
  | inr h ↦ above xs x (λ j r less. all (suc j) r (omega (arith, less))) q h
]

head : (x : RequestParts) (xs : List RequestParts) → AreInOrder (x ∷ xs) → (q : RequestParts) → Has xs q → Before x q
head x xs o q has = above xs x (λ j r less. o r 0 (suc j) (omega arith) (omega (arith, less))) q has

not_after : (a b : RequestParts) → Before a b → Before b a → ⊥
not_after a b p q = not_itself (request_line a) (nat_list_cmp_total.trans (request_line a) (request_line b) (request_line a) p q)

rest_has : (x y : RequestParts) (xs ys : List RequestParts) → x ≡ y → AreInOrder (x ∷ xs) → ((r : RequestParts) → Has (x ∷ xs) r → Has (y ∷ ys) r)
    → (r : RequestParts) → Has xs r → Has ys r
rest_has x y xs ys same o all r has = elim (all r (inr has)) [
  | inl e ↦ absurd (not_itself (request_line x) (subst (Before x) (sym (same ∙ e)) (head x xs o r has)))
  | inr h ↦ h
]

pub one : (xs ys : List RequestParts) → AreInOrder xs → AreInOrder ys → ((r : RequestParts) → Has xs r ↔ Has ys r) → xs ≡ ys
one [] [] o p same = refl
one [] (y ∷ ys) o p same = absurd ((same y).1 (inl refl))
one (x ∷ xs) [] o p same = absurd ((same x).0 (inl refl))
one (x ∷ xs) (y ∷ ys) o p same =
    let first : x ≡ y = elim ((same x).0 (inl refl)) [
      | inl e ↦ sym e
      | inr a ↦ elim ((same y).1 (inl refl)) [
        | inl e ↦ e
        | inr b ↦ absurd (not_after x y (head x xs o y b) (head y ys p x a))
      ]
    ] in
    let rest = one xs ys (tail x xs o) (tail y ys p)
    (λ r. (rest_has x y xs ys first o (λ q. (same q).0) r, rest_has y x ys xs (sym first) p (λ q. (same q).1) r)) in
    λ i. first i ∷ rest i
