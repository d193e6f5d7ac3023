-- The spelling of a number: by recursion on the number, of 1 to 10 bytes, beginning no other's.
use Rattle.std.proofs.Common.{◌≡◌, ℕ, zero, suc, ◌+◌, ◌*◌, ◌/◌, ◌%◌, ◌^◌, ◌<◌, ◌≤◌, List, [], ◌∷◌, ◌++◌, length, refl, sym, ap, ◌∙◌, inl, inr, arith}
use Rattle.std.proofs.lemmas.Bool.{cases_lt, lt-ltb, le-ltb}
use Rattle.std.proofs.lemmas.List.{append_assoc, append_cancel_left}
use Rattle.ots_varint.specs.Varuint.{in_bytes, varuint, varbytes}

-- the last byte
pub in_bytes-low : (k n : ℕ) → n < 128 → in_bytes (suc k) n ≡ n ∷ []
in_bytes-low k n lt = rw (lt-ltb n 128 lt) refl

-- a byte before others
pub in_bytes-high : (k n : ℕ) → 128 ≤ n → in_bytes (suc k) n ≡ (128 + n % 128) ∷ in_bytes k (n / 128)
in_bytes-high k n le = rw (le-ltb n 128 le) refl

-- the numbers that the last k + 1 of ten bytes spell
abbrev pub limit : ℕ → ℕ
limit zero = 2
limit (suc k) = 128 * limit k

-- room for more bytes changes nothing
in_bytes-more : (k n : ℕ) → n < limit k → in_bytes (suc k) n ≡ in_bytes k n
in_bytes-more zero n small = in_bytes-low zero n (omega arith)
in_bytes-more (suc k) n small =
    elim (cases_lt n 128) [
      | inl low ↦ in_bytes-low (suc k) n low ∙ sym (in_bytes-low k n low)
      | inr high ↦
          let ih = in_bytes-more k (n / 128) (omega arith) in
          in_bytes-high (suc k) n high
          ∙ ap (λ (z : List ℕ). (128 + n % 128) ∷ z) ih
          ∙ sym (in_bytes-high k n high)
    ]

pub varuint-low : (n : ℕ) → n < 128 → varuint n ≡ n ∷ []
unfolding varuint
varuint-low n low = in_bytes-low 8 n low

limit_eight : limit 8 ≡ 2 ^ 57
limit_eight = refl

pub varuint-high : (n : ℕ) → 128 ≤ n → n < 2 ^ 64 → varuint n ≡ (128 + n % 128) ∷ varuint (n / 128)
unfolding varuint
varuint-high n high small =
    let room : n / 128 < limit 8 = rw limit_eight (omega arith) in
    in_bytes-high 8 n high ∙ ap (λ (z : List ℕ). (128 + n % 128) ∷ z) (sym (in_bytes-more 8 (n / 128) room))

-- the first byte of a number that goes on is not that of one that ends
apart : (k m n : ℕ) (x y : List ℕ) → m < 128 → 128 ≤ n → in_bytes (suc k) m ++ x ≡ in_bytes (suc k) n ++ y → ⊥
apart k m n x y lt le e =
    let f : m ∷ x ≡ (128 + n % 128) ∷ (in_bytes k (n / 128) ++ y) = rw (in_bytes-low k m lt, in_bytes-high k n le) at e in
    let h : m ≡ 128 + n % 128 = cc in
    omega arith

pub in_bytes-apart : (k m n : ℕ) (x y : List ℕ) → in_bytes k m ++ x ≡ in_bytes k n ++ y → m ≡ n
in_bytes-apart zero m n x y e = cc
in_bytes-apart (suc k) m n x y e =
    elim (cases_lt m 128) [
      | inl m-low ↦ elim (cases_lt n 128) [
        | inl n-low ↦
            let f : m ∷ x ≡ n ∷ y = rw (in_bytes-low k m m-low, in_bytes-low k n n-low) at e in
            cc
        | inr n-high ↦ absurd (apart k m n x y m-low n-high e)
      ]
      | inr m-high ↦ elim (cases_lt n 128) [
        | inl n-low ↦ absurd (apart k n m y x n-low m-high (sym e))
        | inr n-high ↦
            let f : (128 + m % 128) ∷ (in_bytes k (m / 128) ++ x) ≡ (128 + n % 128) ∷ (in_bytes k (n / 128) ++ y) =
            rw (in_bytes-high k m m-high, in_bytes-high k n n-high) at e in
            let low : 128 + m % 128 ≡ 128 + n % 128 = cc in
            let rest : in_bytes k (m / 128) ++ x ≡ in_bytes k (n / 128) ++ y = cc in
            let high = in_bytes-apart k (m / 128) (n / 128) x y rest in
            omega arith
      ]
    ]

pub varuint-apart : (m n : ℕ) (x y : List ℕ) → varuint m ++ x ≡ varuint n ++ y → m ≡ n
unfolding varuint
varuint-apart m n x y e = in_bytes-apart 9 m n x y e

-- equal lists, cut at one length
pub parts_equal : (a b x y : List ℕ) → length a ≡ length b → a ++ x ≡ b ++ y → (a ≡ b) × (x ≡ y)
parts_equal [] [] x y len e = (refl, e)
parts_equal [] (b ∷ bs) x y len e = absurd (omega arith)
parts_equal (a ∷ as') [] x y len e = absurd (omega arith)
parts_equal (a ∷ as') (b ∷ bs) x y len e =
    let rest = parts_equal as' bs x y (omega arith) cc in
    let head : a ≡ b = cc in
    let tail : as' ≡ bs = rest.0 in
    (cc, rest.1)

-- no varbytes begin other ones
pub varbytes-apart : (a b x y : List ℕ) → varbytes a ++ x ≡ varbytes b ++ y → (a ≡ b) × (x ≡ y)
unfolding varbytes
varbytes-apart a b x y e =
    let f : varuint (length a) ++ (a ++ x) ≡ varuint (length b) ++ (b ++ y) = simp append_assoc at e in
    let len : length a ≡ length b = varuint-apart (length a) (length b) (a ++ x) (b ++ y) f in
    let rest : a ++ x ≡ b ++ y = append_cancel_left (varuint (length b)) (a ++ x) (b ++ y) (rw len at f) in
    parts_equal a b x y len rest

pub in_bytes-len : (k n : ℕ) → length (in_bytes k n) ≤ suc k
in_bytes-len zero n = omega arith
in_bytes-len (suc k) n =
    elim (cases_lt n 128) [
      | inl low ↦ rw (in_bytes-low k n low) (omega arith)
      | inr high ↦ rw (in_bytes-high k n high) (omega (arith, in_bytes-len k (n / 128)))
    ]

pub in_bytes-nonempty : (k n : ℕ) → 1 ≤ length (in_bytes k n)
in_bytes-nonempty zero n = omega arith
in_bytes-nonempty (suc k) n =
    elim (cases_lt n 128) [
      | inl low ↦ rw (in_bytes-low k n low) (omega arith)
      | inr high ↦ rw (in_bytes-high k n high) (omega arith)
    ]

pub varuint-nonempty : (n : ℕ) → 1 ≤ length (varuint n)
unfolding varuint
varuint-nonempty n = in_bytes-nonempty 9 n

-- at most ten bytes
pub varuint_at_most_ten : (n : ℕ) → length (varuint n) ≤ 10
unfolding varuint
varuint_at_most_ten n = in_bytes-len 9 n

-- a number below 128 * 128 has one or two
pub varuint_at_most_two : (n : ℕ) → n < 16384 → length (varuint n) ≤ 2
unfolding varuint
varuint_at_most_two n small =
    elim (cases_lt n 128) [
      | inl low ↦ rw (in_bytes-low 8 n low) (omega arith)
      | inr high ↦ rw (in_bytes-high 8 n high, in_bytes-low 7 (n / 128) (omega arith)) (omega arith)
    ]
