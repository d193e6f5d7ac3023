-- Fewer requests in order have no longer a sheet.
use Rattle.std.proofs.Common.{◌≡◌, ◌∙◌, ◌+◌, ◌-◌, ◌/◌, ◌%◌, ◌^◌, ◌<◌, ◌≤◌, ℕ, zero, suc, List, [], ◌∷◌, length, map, get_or, min, refl, sym, ap, subst, arith, inl, inr, length-append}
use Rattle.std.specs.Prelude.{decimal}
use Rattle.std.specs.Cmp.Lexicographic.{slice_cmp}
use Rattle.std.specs.Ordering.{nat_cmp}
use Rattle.std.specs.declared.cmp.Ordering.TheVariants.{Less}
use Rattle.std.proofs.lemmas.Cmp.{nat_list_cmp_total}
use Rattle.std.proofs.lemmas.Fmt.{decimal_digit, decimal_step}
use Rattle.ots_request_set.proofs.Lengths.{fits, fits_back}
use Rattle.ots_request_set.proofs.Texts.{not_itself}
use Rattle.ots_request_set.specs.RequestSet.{Has}
use Rattle.ots_request_set.specs.inner.Key.{all_length}
use Rattle.ots_sheet.proofs.Words.{le_or_lt}
use Rattle.ots_sheet.specs.Request.{RequestParts, request_line}
use Rattle.ots_sheet.specs.Sheet.{AreInOrder, FitsSheet, lines_text}

-- ---- order

-- a request comes before another
abbrev Before : RequestParts → RequestParts → Type 0
Before a b = slice_cmp nat_cmp (request_line a) (request_line b) ≡ Less

tail : (x : RequestParts) (xs : List RequestParts) → AreInOrder (x ∷ xs) → AreInOrder xs
tail x xs o = λ r i j less within. o r (suc i) (suc j) (omega (arith, less)) (omega (arith, within))

above : (xs : List RequestParts) (x : RequestParts) → ((j : ℕ) (r : RequestParts) → j < length xs → Before x (get_or xs j r)) → (q : RequestParts) → Has xs q → Before x q
above [] x all q has = absurd has
above (y ∷ xs) x all q has = elim has [
  | inl e ↦ subst (Before x) e (all 0 y (omega arith))
  | inr h ↦ above xs x (λ j r less. all (suc j) r (omega (arith, less))) q h
]

head : (x : RequestParts) (xs : List RequestParts) → AreInOrder (x ∷ xs) → (q : RequestParts) → Has xs q → Before x q
head x xs o q has = above xs x (λ j r less. o r 0 (suc j) (omega arith) (omega (arith, less))) q has

not_after : (a b : RequestParts) → Before a b → Before b a → ⊥
not_after a b p q = not_itself (request_line a) (nat_list_cmp_total.trans (request_line a) (request_line b) (request_line a) p q)

-- where lists begin alike, what one has after the first is in the other after the first
rest_has : (x y : RequestParts) (xs ys : List RequestParts) → y ≡ x → AreInOrder (x ∷ xs) → ((r : RequestParts) → Has (x ∷ xs) r → Has (y ∷ ys) r)
    → (r : RequestParts) → Has xs r → Has ys r
rest_has x y xs ys same o all r has = elim (all r (inr has)) [
  | inl e ↦ absurd (not_itself (request_line x) (subst (Before x) (sym e ∙ same) (head x xs o r has)))
  | inr h ↦ h
]

-- where the first of a list is in another after its first, so is each
all_later : (x y : RequestParts) (xs ys : List RequestParts) → Has ys x → AreInOrder (x ∷ xs) → AreInOrder (y ∷ ys)
    → ((r : RequestParts) → Has (x ∷ xs) r → Has (y ∷ ys) r) → (r : RequestParts) → Has (x ∷ xs) r → Has ys r
all_later x y xs ys later o p all r has = elim (all r has) [
  | inr h ↦ h
  | inl e ↦ elim has [
    | inl is ↦ absurd (not_itself (request_line y) (subst (Before y) (is ∙ sym e) (head y ys p x later)))
    | inr h ↦ absurd (not_after x y (subst (Before x) (sym e) (head x xs o r h)) (head y ys p x later))
  ]
]

-- ---- lengths

record Fewer (xs ys : List RequestParts) : Type 0 where
  few : length xs ≤ length ys
  small : all_length xs ≤ all_length ys

cons_long : (r : RequestParts) (rs : List RequestParts) → all_length (r ∷ rs) ≡ length (request_line r) + 1 + all_length rs
cons_long r rs = omega (arith, length-append (request_line r) (10 ∷ lines_text (map request_line rs)))

fewer : (xs ys : List RequestParts) → AreInOrder xs → AreInOrder ys → ((r : RequestParts) → Has xs r → Has ys r) → Fewer xs ys
fewer [] ys o p all = record { few = omega arith; small = omega arith }
fewer (x ∷ xs) [] o p all = absurd (all x (inl refl))
fewer (x ∷ xs) (y ∷ ys) o p all = elim (all x (inl refl)) [
  | inl same ↦
      let rest = fewer xs ys (tail x xs o) (tail y ys p) (rest_has x y xs ys same o all) in
      let few = rest.few in
      let small = rest.small in
      let long : length (request_line y) ≡ length (request_line x) = ap (λ (r : RequestParts). length (request_line r)) same in
      record { few = omega (arith, few); small = omega (arith, small, long, cons_long x xs, cons_long y ys) }
  | inr later ↦
      let rest = fewer (x ∷ xs) ys o (tail y ys p) (all_later x y xs ys later o p all) in
      let few = rest.few in
      let small = rest.small in
      record { few = omega (arith, few); small = omega (arith, small, cons_long y ys) }
]

-- ---- digits

digits_up : (most m n : ℕ) → n ≤ most → m ≤ n → n < 2 ^ 64 → length (decimal m) ≤ length (decimal n)
digits_up zero m n low le fits = let same : m ≡ n = omega (arith, low, le) in omega (arith, ap (λ (z : ℕ). length (decimal z)) same)
digits_up (suc most) m n low le fits = elim (le_or_lt 10 m) [
  | inl large ↦
      omega (
        arith,
        ap length (decimal_step m large (omega (arith, le, fits))),
        ap length (decimal_step n (omega (arith, large, le)) fits),
        length-append (decimal (m / 10)) ((48 + m % 10) ∷ []),
        length-append (decimal (n / 10)) ((48 + n % 10) ∷ []),
        digits_up most (m / 10) (n / 10) (omega (arith, large, low, le)) (omega (arith, le)) (omega (arith, fits)),
      )
  | inr small ↦ elim (le_or_lt 10 n) [
    | inl large ↦
        omega (
          arith,
          ap length (decimal_digit m small),
          ap length (decimal_step n large fits),
          length-append (decimal (n / 10)) ((48 + n % 10) ∷ []),
        )
    | inr few ↦ omega (arith, ap length (decimal_digit m small), ap length (decimal_digit n few))
  ]
]

-- ---- sheets

pub fewer_fit : (xs ys : List RequestParts) → AreInOrder xs → AreInOrder ys → ((r : RequestParts) → Has xs r → Has ys r) → FitsSheet (map request_line ys)
    → FitsSheet (map request_line xs)
fewer_fit xs ys o p all within =
    let less = fewer xs ys o p all in
    let few = less.few in
    let small = less.small in
    let back = fits_back ys (length ys) (min (all_length ys) (2 ^ 64 - 1)) refl refl within in
    let back_few = back.few in
    let back_small = back.small in
    let digits = digits_up (length ys) (length xs) (length ys) (omega arith) few (omega (arith, back_few)) in
    fits xs (length xs) (min (all_length xs) (2 ^ 64 - 1)) refl refl
    (record { few = omega (arith, few, back_few); small = omega (arith, small, digits, back_small) })
