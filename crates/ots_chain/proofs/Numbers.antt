-- Numbers that are spelled by bytes, and powers of 256.
use Rattle.std.proofs.Common.{◌≡◌, ℕ, zero, suc, ◌+◌, ◌-◌, ◌*◌, ◌^◌, ◌<◌, ◌≤◌, List, [], ◌∷◌, ◌++◌, length, take, drop, replicate, refl, sym, ap, arith, lit<, lit≤, append_assoc, length-append, zero-mul, add-mul, mul_assoc, mul_comm, mul-le-mul_left, mul-lt-mul_of_pos_right, mul-pos}
use Rattle.std.proofs.lemmas.Nat.{pow-add}
use Rattle.std.proofs.lemmas.List.{take-replicate, drop-replicate, length-replicate}
use Rattle.std.proofs.Math.Nat.{pow-le-pow_right, one-le-pow}
use borrow.Rule.Slice.PartMut.{put_mid}
use Rattle.std.specs.Int.{w32, to_be_bytes}
use Rattle.ots_chain.specs.Target.{be_number}

pub small_power : (k : ℕ) → k ≤ 3 → (0 < 256 ^ k) × (256 ^ k < 4294967296)
small_power zero h = (lit< tt, lit< tt)
small_power (suc zero) h = (lit< tt, lit< tt)
small_power (suc (suc zero)) h = (lit< tt, lit< tt)
small_power (suc (suc (suc zero))) h = (lit< tt, lit< tt)
small_power (suc (suc (suc (suc k)))) h = absurd (omega arith)

pub be_zeros : (n : ℕ) → be_number (replicate n 0) ≡ 0
unfolding be_number
be_zeros zero = refl
be_zeros (suc n) = omega (arith, be_zeros n)

pub be_append : (x y : List ℕ) → be_number (x ++ y) ≡ be_number x * 256 ^ length y + be_number y
unfolding be_number
be_append [] y = omega arith
be_append (b ∷ x) y =
    let step = be_append x y in
    rw (length-append x y, pow-add 256 (length x) (length y), step)
    (omega (arith, add-mul (b * 256 ^ length x) (be_number x) (256 ^ length y), mul_assoc b (256 ^ length x) (256 ^ length y)))

pub put_in_zeros : (a k w : ℕ) (b : List ℕ) → a + k + w ≡ 32
    → put_mid a k (replicate 32 0) b ≡ replicate a 0 ++ b ++ replicate w 0
put_in_zeros a k w b e =
    let rest : replicate {A = ℕ} (32 - a - k) 0 ≡ replicate w 0 = ap (λ n. replicate {A = ℕ} n 0) (omega arith) in
    rw (take-replicate {X = ℕ} a 32 0 (omega arith), drop-replicate {X = ℕ} a 32 0, drop-replicate {X = ℕ} k (32 - a) 0, rest)
    (sym (append_assoc (replicate {A = ℕ} a 0) b (replicate w 0)))

-- the last bytes of a number that has no more
pub be_used : (u n : ℕ) → u ≤ 3 → n < 256 ^ u → be_number (take (4 - (4 - u)) (drop (4 - u) (to_be_bytes w32 n))) ≡ n
unfolding be_number
be_used zero n h below = omega (arith, below)
be_used (suc zero) n h below = omega (arith, below)
be_used (suc (suc zero)) n h below = omega (arith, below)
be_used (suc (suc (suc zero))) n h below = omega (arith, below)
be_used (suc (suc (suc (suc u)))) n h below = absurd (omega arith)

pub be_placed : (a z : ℕ) (b : List ℕ) → be_number (replicate a 0 ++ b ++ replicate z 0) ≡ be_number b * 256 ^ z
be_placed a z b =
    rw (be_append (replicate a 0 ++ b) (replicate z 0), be_append (replicate a 0) b, be_zeros a, be_zeros z, length-replicate {A = ℕ} z 0)
    (omega (arith, zero-mul (256 ^ length b)))

-- a number of u bytes, and z zeros after them
pub too_long : (d z u : ℕ) → 33 ≤ z + u → 256 ^ u ≤ 256 * d → d * 256 ^ z < 256 ^ 32 → ⊥
too_long d z u long least fits =
    let most = pow-le-pow_right {n = 256} (lit≤ tt) long in
    let some = mul-le-mul_left (256 ^ z) least in
    omega (arith, most, some, fits, pow-add 256 z u, mul_assoc 256 d (256 ^ z), mul_comm (256 ^ z) (256 * d))

pub fits : (d z u : ℕ) → z + u ≤ 32 → d < 256 ^ u → d * 256 ^ z < 256 ^ 32
fits d z u short below =
    let power = one-le-pow z 256 (lit≤ tt) in
    let less = mul-lt-mul_of_pos_right below power in
    let most = pow-le-pow_right {n = 256} (lit≤ tt) short in
    omega (arith, less, most, pow-add 256 z u, mul_comm (256 ^ z) (256 ^ u))

pub some_digits : (d z : ℕ) → 0 < d → d * 256 ^ z ≡ 0 → ⊥
some_digits d z some none = omega (arith, none, mul-pos some (one-le-pow z 256 (lit≤ tt)))

pub used_length : (u n : ℕ) → u ≤ 3 → length (take (4 - (4 - u)) (drop (4 - u) (to_be_bytes w32 n))) ≡ u
used_length zero n h = refl
used_length (suc zero) n h = refl
used_length (suc (suc zero)) n h = refl
used_length (suc (suc (suc zero))) n h = refl
used_length (suc (suc (suc (suc u)))) n h = absurd (omega arith)

pub placed_length : (a z : ℕ) (b : List ℕ) → a + length b + z ≡ 32 → length (replicate a 0 ++ b ++ replicate z 0) ≡ 32
placed_length a z b e =
    rw (length-append (replicate {A = ℕ} a 0 ++ b) (replicate z 0), length-append (replicate {A = ℕ} a 0) b, length-replicate {A = ℕ} a 0, length-replicate {A = ℕ} z 0) e
