-- A number that comes byte by byte.
use Rattle.std.proofs.Common.{◌≡◌, ℕ, zero, suc, ◌+◌, ◌-◌, ◌*◌, ◌/◌, ◌%◌, ◌^◌, ◌<◌, ◌≤◌, Bool, true, false, ltb, eqb, List, [], ◌∷◌, ◌++◌, refl, sym, ap, ◌∙◌, inl, inr, arith, lit<, add-one, add-zero}
use Rattle.std.specs.Prelude.{◌&&◌}
use Rattle.std.specs.List.{AllByRecursion}
use Rattle.std.proofs.lemmas.Bool.{cases_lt, lt-ltb}
use Rattle.std.proofs.lemmas.List.{append-nil}
use Rattle.std.proofs.lemmas.Nat.{mul-le}
use Rattle.std.proofs.lemmas.Grind.{pow_more}
use Rattle.std.proofs.Math.Nat.{pow-le-pow_right}
use Rattle.ots_varint.specs.declared.reading.VaruintRead.{VaruintRead}
use Rattle.ots_varint.specs.declared.reading.VaruintRead.TheVariants.{Value, Short, NonMinimal, TooLarge}
use Rattle.ots_varint.specs.Reading.{above, reading_from, reading}
use Rattle.ots_varint.specs.Continued.{continued, IsPartial}
use Rattle.ots_varint.specs.declared.state.Step.TheVariants as step
use Rattle.ots_varint.specs.Step.{step_of}
use Rattle.ots_varint.proofs.ReadBack.{small_if, at_high}

-- ---- what a machine number needs

power_small : (i : ℕ) → i < 9 → 128 ^ i ≤ 2 ^ 56
power_small i early = let le : i ≤ 8 = omega arith in let h : 128 ^ i ≤ 128 ^ 8 = pow-le-pow_right {n = 128} (lit< tt) le in h

scale_small : (i s : ℕ) → i < 9 → s ≡ 128 ^ i → s ≤ 2 ^ 56
scale_small i s early e = let h = power_small i early in omega arith

-- a factor below 128
product_small : (s d : ℕ) → s ≤ 2 ^ 56 → d < 128 → s * d ≤ 2 ^ 56 * 127
product_small s d h k = mul-le s d (2 ^ 56) 127 h (omega arith)

early_if : (i b : ℕ) (over : Bool) → i ≤ 9 → over ≡ (eqb i 9 && ltb 1 b) → over ≡ false → 128 ≤ b → i < 9
early_if i b over at e f high =
    let small = small_if i b (sym e ∙ f) in
    elim (cases_lt i 9) [ inl lt ↦ lt | inr le ↦ absurd (let s = small (omega arith) in omega arith) ]

-- the last byte
pub last_fits : (v s i b d : ℕ) (over : Bool) → IsPartial v s i → d ≡ b → over ≡ (eqb i 9 && ltb 1 b) → over ≡ false → b < 128 → (s * d < 2 ^ 64) × (v + s * d < 2 ^ 64)
last_fits v s i b d over h is e f low =
    let small = small_if i b (sym e ∙ f) in
    let below = h.below in
    let at = h.early in
    elim (cases_lt i 9) [
      | inl early ↦
          let room = scale_small i s early h.scaled in
          let p = product_small s d room (omega arith) in
          (omega arith, omega arith)
      | inr le ↦
          let nine : i ≡ 9 = omega arith in
          let b-small = small nine in
          let power : s ≡ 128 ^ 9 = h.scaled ∙ ap (λ z. 128 ^ z) nine in
          let p : s * d ≤ 128 ^ 9 * 1 = mul-le s d (128 ^ 9) 1 (omega arith) (omega arith) in
          (omega arith, omega arith)
    ]

-- another byte
pub more_fits : (v s i b d : ℕ) (over : Bool) → IsPartial v s i → d ≡ b - 128 → over ≡ (eqb i 9 && ltb 1 b) → over ≡ false → 128 ≤ b → b < 256
    → (i < 9) × (s * d < 2 ^ 64) × (v + s * d < 2 ^ 64) × (s * 128 < 2 ^ 64)
more_fits v s i b d over h is e f high byte =
    let early = early_if i b over h.early e f high in
    let below = h.below in
    let room = scale_small i s early h.scaled in
    let p = product_small s d room (omega arith) in
    (early, omega arith, omega arith, omega arith)

-- ---- what the bytes so far are

-- the answer where k bytes of value v stand before the rest
abbrev resume : ℕ → ℕ → VaruintRead → VaruintRead
resume v k (Value n used) = Value (v + 128 ^ k * n) (k + used)
resume v k Short = Short
resume v k NonMinimal = NonMinimal
resume v k TooLarge = TooLarge

pow_suc : (k : ℕ) → 128 ^ suc k ≡ 128 ^ k * 128
pow_suc k = let e : suc k ≡ k + 1 = omega arith in rw e (pow_more 128 k)

-- seven low bits before a number that begins with p's multiple of n
spread : (v p n : ℕ) → v % 128 + 128 * (v / 128 + p * n) ≡ v + p * 128 * n
spread v p n = omega arith

resume_above : (v k : ℕ) (r : VaruintRead) → above (v % 128) (resume (v / 128) k r) ≡ resume v (suc k) r
resume_above v k (Value n used) =
    let place : k + used + 1 ≡ suc k + used = omega arith in
    rw (pow_suc k, spread v (128 ^ k) n, place) refl
resume_above v k Short = refl
resume_above v k NonMinimal = refl
resume_above v k TooLarge = refl

low_bits : (v : ℕ) → 128 + v % 128 - 128 ≡ v % 128
low_bits v = omega arith

resume_zero : (v : ℕ) (r : VaruintRead) → v < 1 → r ≡ resume v 0 r
resume_zero v (Value n used) small = let e : v + 1 * n ≡ n = omega arith in let f : 0 + used ≡ used = omega arith in rw (e, f) refl
resume_zero v Short small = refl
resume_zero v NonMinimal small = refl
resume_zero v TooLarge small = refl

reading_continued : (k i v : ℕ) (rest : List ℕ) → i + k ≤ 9 → v < 128 ^ k → reading_from i (continued k v ++ rest) ≡ resume v k (reading_from (i + k) rest)
reading_continued zero i v rest at small = rw add-zero (resume_zero v (reading_from i rest) small)
reading_continued (suc k) i v rest at small =
    let below : v < 128 ^ k * 128 = rw pow_suc at small in
    let place : i + suc k ≡ suc i + k = omega arith in
    let ih = reading_continued k (suc i) (v / 128) rest (omega arith) (omega arith) in
    at_high i (128 + v % 128) (continued k (v / 128) ++ rest) (omega arith) (omega arith)
    ∙ rw (ih, low_bits v, place) (resume_above v k (reading_from (suc i + k) rest))

-- what one more byte makes
pub answer_at : (v s i b : ℕ) → IsPartial v s i → reading (continued i v ++ b ∷ []) ≡ resume v i (reading_from i (b ∷ []))
unfolding reading
answer_at v s i b h =
    let at = h.early in
    let none : 0 + i ≡ i = omega arith in
    reading_continued i 0 v (b ∷ []) (omega arith) (rw (← h.scaled) h.below) ∙ rw none refl

-- they make no number yet
pub open_so_far : (v s i : ℕ) → IsPartial v s i → reading (continued i v) ≡ Short
unfolding reading
open_so_far v s i h =
    let at = h.early in
    ap (reading_from 0) (sym (append-nil (continued i v))) ∙ reading_continued i 0 v [] (omega arith) (rw (← h.scaled) h.below)

-- and are bytes, also with one more
pub bytes_so_far : (i v b : ℕ) → b < 256 → AllByRecursion (λ b. b < 256) (continued i v ++ b ∷ [])
bytes_so_far zero v b byte = (byte, tt)
bytes_so_far (suc i) v b byte = (omega arith, bytes_so_far i (v / 128) b byte)

-- the bytes of a number that goes on with seven more bits
continued-more : (k v d : ℕ) → v < 128 ^ k → d < 128 → continued (suc k) (v + 128 ^ k * d) ≡ continued k v ++ (128 + d) ∷ []
continued-more zero v d small bits =
    let e : v + 1 * d ≡ d = omega arith in
    let f : d % 128 ≡ d = omega arith in
    rw (e, f) refl
continued-more (suc k) v d small bits =
    let below : v < 128 ^ k * 128 = rw pow_suc at small in
    let ih = continued-more k (v / 128) d (omega arith) bits in
    let low : (v + 128 ^ k * 128 * d) % 128 ≡ v % 128 = low_of v (128 ^ k) d in
    let high : (v + 128 ^ k * 128 * d) / 128 ≡ v / 128 + 128 ^ k * d = high_of v (128 ^ k) d in
    rw (pow_suc k, low, high) (ap (λ (z : List ℕ). (128 + v % 128) ∷ z) ih)
  where
    low_of : (v p d : ℕ) → (v + p * 128 * d) % 128 ≡ v % 128
    low_of v p d = omega arith

    high_of : (v p d : ℕ) → (v + p * 128 * d) / 128 ≡ v / 128 + p * d
    high_of v p d = omega arith

-- one byte more, of seven bits d
pub fed_one : (v s i b d : ℕ) → IsPartial v s i → d ≡ b - 128 → 128 ≤ b → b < 256 → continued (i + 1) (v + s * d) ≡ continued i v ++ b ∷ []
fed_one v s i b d h is high byte =
    let bits : d < 128 = omega arith in
    let back : 128 + d ≡ b = omega arith in
    let below : v < 128 ^ i = rw (← h.scaled) h.below in
    rw (add-one, h.scaled) (continued-more i v d below bits ∙ rw back refl)

-- and the longer bytes are of a number that goes on
pub fed_partial : (v s i d t : ℕ) → IsPartial v s i → i < 9 → d < 128 → t ≡ s * 128 → IsPartial (v + s * d) t (i + 1)
fed_partial v s i d t h early bits is =
    let scaled : t ≡ 128 ^ (i + 1) = is ∙ rw (pow_more 128 i, h.scaled) refl in
    let product : s * d ≤ s * 127 = mul-le s d s 127 (omega arith) (omega arith) in
    let below = h.below in
    record { early = omega arith; scaled = scaled; below = omega arith }

-- ---- the answer to one more byte

pub answer_over : (v s i b : ℕ) (over : Bool) → IsPartial v s i → over ≡ (eqb i 9 && ltb 1 b) → over ≡ true → step.TooLarge ≡ step_of (reading (continued i v ++ b ∷ []))
answer_over v s i b over h is e = rw (answer_at v s i b h, ← is, e) refl

pub answer_padding : (v s i b : ℕ) (over pads : Bool) → IsPartial v s i → over ≡ (eqb i 9 && ltb 1 b) → over ≡ false → pads ≡ (ltb 0 i && eqb b 0) → pads ≡ true
    → step.NonMinimal ≡ step_of (reading (continued i v ++ b ∷ []))
answer_padding v s i b over pads h is e is-pad f = rw (answer_at v s i b h, ← is, e, ← is-pad, f) refl

pub answer_last : (v s i b d : ℕ) (over pads : Bool) → IsPartial v s i → over ≡ (eqb i 9 && ltb 1 b) → over ≡ false → pads ≡ (ltb 0 i && eqb b 0) → pads ≡ false → b < 128 → d ≡ b
    → step.Value (v + s * d) ≡ step_of (reading (continued i v ++ b ∷ []))
answer_last v s i b d over pads h is e is-pad f low same =
    rw (answer_at v s i b h, ← is, e, ← is-pad, f, lt-ltb b 128 low, same, h.scaled) refl

pub answer_more : (v s i b : ℕ) → IsPartial v s i → i < 9 → 128 ≤ b → step.More ≡ step_of (reading (continued i v ++ b ∷ []))
answer_more v s i b h early high = rw (answer_at v s i b h, at_high i b [] early high) refl
