-- Numbers that are compared by their bytes, from the high one on.
use Rattle.std.proofs.Common.{◌≡◌, ℕ, suc, ◌+◌, ◌*◌, ◌^◌, ◌<◌, ◌≤◌, List, [], ◌∷◌, ◌↔◌, Bool, IsTrue, is_le, length, reverse, refl, sym, ap, ◌∙◌, subst, arith, true≢false, lit<, pow-suc, mul-le-mul_right, add-mul}
use Rattle.std.proofs.lemmas.List.{reverse-append, length-reverse}
use Rattle.ots_chain.specs.Reversed.{AreBytes, bytes_reverse}
use Rattle.std.specs.Ordering.{MatchOrdering, nat_cmp, ordering_then}
use Rattle.std.specs.Cmp.Lexicographic.{slice_cmp}
use Rattle.std.specs.declared.cmp.Ordering.{Ordering}
use Rattle.std.specs.declared.cmp.Ordering.TheVariants.{Less, Equal, Greater}
use Rattle.std.proofs.lemmas.Cmp.{ranked}
use Rattle.ots_chain.specs.Target.{be_number, le_number}
use Rattle.ots_chain.proofs.Numbers.{be_append}

be_below : (l : List ℕ) → AreBytes l → be_number l < 256 ^ length l
unfolding be_number
be_below [] below = lit< tt
be_below (x ∷ xs) below =
    let rest = be_below xs (λ i. below (suc i)) in
    let byte : x ≤ 255 = omega (arith, below 0) in
    omega (arith, rest, mul-le-mul_right (256 ^ length xs) byte, pow-suc 256 (length xs))

-- numbers of as many bytes that begin with a smaller and a greater one
less : (x y : ℕ) (xs ys : List ℕ) → length xs ≡ length ys → AreBytes xs → x < y → be_number (x ∷ xs) < be_number (y ∷ ys)
unfolding be_number
less x y xs ys long bytes below =
    let same : y * 256 ^ length xs ≡ y * 256 ^ length ys = ap (λ n. y * 256 ^ n) long in
    let more : x + 1 ≤ y = omega (arith, below) in
    omega (arith, be_below xs bytes, same, mul-le-mul_right (256 ^ length xs) more, add-mul x 1 (256 ^ length xs))

then_by : (x y : ℕ) (xs ys : List ℕ) (o rest : Ordering) → length xs ≡ length ys → AreBytes xs → AreBytes ys
    → MatchOrdering o (x < y) (x ≡ y) (y < x)
    → MatchOrdering rest (be_number xs < be_number ys) (be_number xs ≡ be_number ys) (be_number ys < be_number xs)
    → MatchOrdering (ordering_then o rest) (be_number (x ∷ xs) < be_number (y ∷ ys)) (be_number (x ∷ xs) ≡ be_number (y ∷ ys))
    (be_number (y ∷ ys) < be_number (x ∷ xs))
unfolding be_number
then_by x y xs ys Less rest long left right h k = less x y xs ys long left h
then_by x y xs ys Greater rest long left right h k = less y x ys xs (sym long) right h
then_by x y xs ys Equal Less long left right h k =
    let same : x * 256 ^ length xs ≡ y * 256 ^ length ys = λ i. h i * 256 ^ long i in omega (arith, same, k)
then_by x y xs ys Equal Equal long left right h k =
    let same : x * 256 ^ length xs ≡ y * 256 ^ length ys = λ i. h i * 256 ^ long i in omega (arith, same, k)
then_by x y xs ys Equal Greater long left right h k =
    let same : x * 256 ^ length xs ≡ y * 256 ^ length ys = λ i. h i * 256 ^ long i in omega (arith, same, k)

pub by_bytes : (xs ys : List ℕ) → length xs ≡ length ys → AreBytes xs → AreBytes ys
    → MatchOrdering (slice_cmp nat_cmp xs ys) (be_number xs < be_number ys) (be_number xs ≡ be_number ys) (be_number ys < be_number xs)
by_bytes [] [] long left right = refl
by_bytes [] (y ∷ ys) long left right = absurd (omega (arith, long))
by_bytes (x ∷ xs) [] long left right = absurd (omega (arith, long))
by_bytes (x ∷ xs) (y ∷ ys) long left right =
    let tails : length xs ≡ length ys = omega (arith, long) in
    then_by x y xs ys (nat_cmp x y) (slice_cmp nat_cmp xs ys) tails (λ i. left (suc i)) (λ i. right (suc i)) (ranked x y (nat_cmp x y) refl)
    (by_bytes xs ys tails (λ i. left (suc i)) (λ i. right (suc i)))

pub reversed : (l : List ℕ) → be_number (reverse l) ≡ le_number l
unfolding be_number le_number
reversed [] = refl
reversed (x ∷ xs) =
    let step = reversed xs in
    ap be_number (reverse-append (x ∷ []) xs) ∙ be_append (reverse xs) (x ∷ []) ∙ omega (arith, step)

tested : (a b : ℕ) (o : Ordering) (r : Bool) → r ≡ is_le o → MatchOrdering o (a < b) (a ≡ b) (b < a) → IsTrue r ↔ (a ≤ b)
tested a b Less r e h = ((λ _. omega (arith, h)), (λ _. e))
tested a b Equal r e h = ((λ _. omega (arith, h)), (λ _. e))
tested a b Greater r e h = ((λ t. absurd (true≢false (sym t ∙ e))), (λ most. absurd (omega (arith, h, most))))

pub at_most : (hash number xs ys : List ℕ) (o : Ordering) (r : Bool) → xs ≡ reverse hash → ys ≡ number → o ≡ slice_cmp nat_cmp xs ys
    → r ≡ is_le o → length hash ≡ 32 → length number ≡ 32 → AreBytes hash → AreBytes number → IsTrue r ↔ (le_number hash ≤ be_number number)
at_most hash number xs ys o r first second compared answered left right bytes more =
    let same : o ≡ slice_cmp nat_cmp (reverse hash) number = compared ∙ (λ i. slice_cmp nat_cmp (first i) (second i)) in
    let ranks = by_bytes (reverse hash) number (length-reverse hash ∙ left ∙ sym right) (bytes_reverse hash bytes) more in
    tested (le_number hash) (be_number number) o r answered
    (subst (λ p. MatchOrdering p (le_number hash < be_number number) (le_number hash ≡ be_number number) (be_number number < le_number hash))
    (sym same)
    (subst (λ n. MatchOrdering (slice_cmp nat_cmp (reverse hash) number) (n < be_number number) (n ≡ be_number number) (be_number number < n))
    (reversed hash) ranks))
