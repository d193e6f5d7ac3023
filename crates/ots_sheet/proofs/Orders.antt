-- The order of requests is that of the bytes of their lines.
use Rattle.std.proofs.Common.{◌≡◌, ◌<◌, ◌/◌, ◌%◌, ℕ, zero, suc, List, [], ◌∷◌, ◌++◌, length, get_or, refl, sym, ap, subst, ◌∙◌, arith, inl, inr, lit<}
use Rattle.std.specs.Cmp.Lexicographic.{slice_cmp}
use Rattle.std.specs.Ordering.{nat_cmp, ordering_then}
use Rattle.std.specs.declared.cmp.Ordering.{Ordering}
use Rattle.std.specs.declared.cmp.Ordering.TheVariants.{Less, Equal, Greater}
use Rattle.std.proofs.lemmas.Bool.Decides.{nat_tests}
use Rattle.hex.specs.Hex.{IsBytes, encode_lower, encode_with, lower_digits}
use Rattle.ots_calendar_url.proofs.Bytes.{Above, above_url}
use Rattle.ots_sheet.specs.declared.request.Kind.{Kind}
use Rattle.ots_sheet.specs.declared.request.Kind.TheVariants.{Get, Post}
use Rattle.ots_sheet.specs.Request.{IsRequest, RequestParts, blank, kind_word, request_line}
use Rattle.ots_sheet.specs.Order.{alike_order, kind_order, request_order}
use Rattle.ots_sheet.proofs.Words.{le_or_lt}

-- ---- numbers

less_is : (x y : ℕ) → x < y → nat_cmp x y ≡ Less
less_is x y h = grind (arith, nat_tests)

more_is : (x y : ℕ) → y < x → nat_cmp x y ≡ Greater
more_is x y h = grind (arith, nat_tests)

same_is : (x : ℕ) → nat_cmp x x ≡ Equal
same_is x = grind (arith, nat_tests)

then_assoc : (a b c : Ordering) → ordering_then a (ordering_then b c) ≡ ordering_then (ordering_then a b) c
then_assoc Less b c = refl
then_assoc Equal b c = refl
then_assoc Greater b c = refl

-- ---- words that end before a blank

pub words_order : (a b x y : List ℕ) → Above a → Above b
    → slice_cmp nat_cmp (a ++ blank ∷ x) (b ++ blank ∷ y) ≡ ordering_then (slice_cmp nat_cmp a b) (slice_cmp nat_cmp x y)
words_order [] [] x y p q = refl
words_order [] (d ∷ b) x y p q = ap (λ (o : Ordering). ordering_then o (slice_cmp nat_cmp x (b ++ blank ∷ y))) (less_is 32 d q.0)
words_order (c ∷ a) [] x y p q = ap (λ (o : Ordering). ordering_then o (slice_cmp nat_cmp (a ++ blank ∷ x) y)) (more_is c 32 p.0)
words_order (c ∷ a) (d ∷ b) x y p q =
    ap (λ (o : Ordering). ordering_then (nat_cmp c d) o) (words_order a b x y p.1 q.1)
    ∙ then_assoc (nat_cmp c d) (slice_cmp nat_cmp a b) (slice_cmp nat_cmp x y)

-- ---- hexadecimal digits

abbrev AreUp : List ℕ → Type 0
AreUp [] = Unit {0}
AreUp (x ∷ []) = Unit {0}
AreUp (x ∷ y ∷ xs) = (x < y) × AreUp (y ∷ xs)

abbrev digits_up : AreUp lower_digits
digits_up = (lit< tt, (lit< tt, (lit< tt, (lit< tt, (lit< tt, (lit< tt, (lit< tt, (lit< tt, (lit< tt, (lit< tt, (lit< tt, (lit< tt, (lit< tt, (lit< tt, (lit< tt, tt)))))))))))))))

next_up : (xs : List ℕ) (i : ℕ) → AreUp xs → suc i < length xs → get_or xs i 0 < get_or xs (suc i) 0
next_up [] i up less = absurd (omega (arith, less))
next_up (x ∷ []) i up less = absurd (omega (arith, less))
next_up (x ∷ y ∷ xs) zero up less = up.0
next_up (x ∷ y ∷ xs) (suc i) up less = next_up (y ∷ xs) i up.1 (omega (arith, less))

up_to : (xs : List ℕ) (i j : ℕ) → AreUp xs → i < j → j < length xs → get_or xs i 0 < get_or xs j 0
up_to xs i zero up less within = absurd (omega (arith, less))
up_to xs i (suc j) up less within =
    let next = next_up xs j up within in
    elim (le_or_lt j i) [
      | inl same ↦ let is : i ≡ j = omega (arith, less, same) in subst (λ (z : ℕ). get_or xs z 0 < get_or xs (suc j) 0) (sym is) next
      | inr before ↦ let earlier = up_to xs i j up before (omega (arith, within)) in omega (arith, earlier, next)
    ]

digit_order : (i j : ℕ) → i < 16 → j < 16 → nat_cmp (get_or lower_digits i 0) (get_or lower_digits j 0) ≡ nat_cmp i j
digit_order i j p q = elim (le_or_lt j i) [
  | inr less ↦ less_is (get_or lower_digits i 0) (get_or lower_digits j 0) (up_to lower_digits i j digits_up less q) ∙ sym (less_is i j less)
  | inl le ↦ elim (le_or_lt i j) [
    | inr more ↦ more_is (get_or lower_digits i 0) (get_or lower_digits j 0) (up_to lower_digits j i digits_up more p) ∙ sym (more_is i j more)
    | inl ge ↦ let same : i ≡ j = omega (arith, le, ge) in
        subst (λ (z : ℕ). nat_cmp (get_or lower_digits i 0) (get_or lower_digits z 0) ≡ nat_cmp i z) same (same_is (get_or lower_digits i 0) ∙ sym (same_is i))
  ]
]

halves_order : (x y : ℕ) → ordering_then (nat_cmp (x / 16) (y / 16)) (nat_cmp (x % 16) (y % 16)) ≡ nat_cmp x y
halves_order x y = elim (le_or_lt (y / 16) (x / 16)) [
  | inr less ↦ ap (λ (o : Ordering). ordering_then o (nat_cmp (x % 16) (y % 16))) (less_is (x / 16) (y / 16) less) ∙ sym (less_is x y (omega (arith, less)))
  | inl le ↦ elim (le_or_lt (x / 16) (y / 16)) [
    | inr more ↦ ap (λ (o : Ordering). ordering_then o (nat_cmp (x % 16) (y % 16))) (more_is (x / 16) (y / 16) more) ∙ sym (more_is x y (omega (arith, more)))
    | inl ge ↦
        let high : x / 16 ≡ y / 16 = omega (arith, le, ge) in
        ap (λ (o : Ordering). ordering_then o (nat_cmp (x % 16) (y % 16))) (ap (λ (z : ℕ). nat_cmp (x / 16) z) (sym high) ∙ same_is (x / 16))
        ∙ lows x y high
  ]
]
  where
    lows : (x y : ℕ) → x / 16 ≡ y / 16 → nat_cmp (x % 16) (y % 16) ≡ nat_cmp x y
    lows x y high = elim (le_or_lt y x) [
      | inr less ↦ less_is (x % 16) (y % 16) (omega (arith, high, less)) ∙ sym (less_is x y less)
      | inl le ↦ elim (le_or_lt x y) [
        | inr more ↦ more_is (x % 16) (y % 16) (omega (arith, high, more)) ∙ sym (more_is x y more)
        | inl ge ↦ let same : x ≡ y = omega (arith, le, ge) in
            subst (λ (z : ℕ). nat_cmp (x % 16) (z % 16) ≡ nat_cmp x z) same (same_is (x % 16) ∙ sym (same_is x))
      ]
    ]

pub hex_order : (xs ys : List ℕ) → IsBytes xs → IsBytes ys → slice_cmp nat_cmp (encode_lower xs) (encode_lower ys) ≡ slice_cmp nat_cmp xs ys
unfolding encode_with
hex_order [] [] p q = refl
hex_order [] (y ∷ ys) p q = refl
hex_order (x ∷ xs) [] p q = refl
hex_order (x ∷ xs) (y ∷ ys) p q =
    let first : x < 256 = p 0 in
    let second : y < 256 = q 0 in
    let highs = digit_order (x / 16) (y / 16) (omega (arith, first)) (omega (arith, second)) in
    let lows = digit_order (x % 16) (y % 16) (omega (arith, first)) (omega (arith, second)) in
    let rest = hex_order xs ys (λ i. p (suc i)) (λ i. q (suc i)) in
    (λ i. ordering_then (highs i) (ordering_then (lows i) (rest i)))
    ∙ then_assoc (nat_cmp (x / 16) (y / 16)) (nat_cmp (x % 16) (y % 16)) (slice_cmp nat_cmp xs ys)
    ∙ ap (λ (o : Ordering). ordering_then o (slice_cmp nat_cmp xs ys)) (halves_order x y)

-- ---- requests

alike : (a b : RequestParts) → IsRequest a → IsRequest b
    → slice_cmp nat_cmp (a.url ++ blank ∷ encode_lower a.message) (b.url ++ blank ∷ encode_lower b.message) ≡ alike_order a b
alike a b p q =
    words_order a.url b.url (encode_lower a.message) (encode_lower b.message) (above_url a.url p.scheme p.url) (above_url b.url q.scheme q.url)
    ∙ ap (ordering_then (slice_cmp nat_cmp a.url b.url)) (hex_order a.message b.message p.bytes q.bytes)

kinds : (j k : Kind) (x y : List ℕ) → slice_cmp nat_cmp (kind_word j ++ blank ∷ x) (kind_word k ++ blank ∷ y) ≡ ordering_then (kind_order j k) (slice_cmp nat_cmp x y)
kinds Get Get x y = refl
kinds Get Post x y = refl
kinds Post Get x y = refl
kinds Post Post x y = refl

pub lines_order : (a b : RequestParts) → IsRequest a → IsRequest b → request_order a b ≡ slice_cmp nat_cmp (request_line a) (request_line b)
lines_order a b p q =
    ap (ordering_then (kind_order a.kind b.kind)) (sym (alike a b p q))
    ∙ sym (kinds a.kind b.kind (a.url ++ blank ∷ encode_lower a.message) (b.url ++ blank ∷ encode_lower b.message))
