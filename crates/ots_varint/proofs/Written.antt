-- A number written from its lowest bits on.
use Rattle.std.proofs.Common.{◌≡◌, ℕ, zero, suc, ◌+◌, ◌-◌, ◌*◌, ◌/◌, ◌%◌, ◌^◌, ◌<◌, ◌≤◌, List, [], ◌∷◌, ◌++◌, length, take, drop, refl, sym, ap, ◌∙◌, inl, inr, arith, append_assoc, length-append}
use Rattle.std.proofs.Math.ListN.{set}
use Rattle.std.proofs.lemmas.Grind.{common_steps}
use Rattle.std.proofs.lemmas.Bool.{cases_lt}
use Rattle.std.proofs.lemmas.List.{take_more_set, drop-set-lt, drop-drop, length-set, take-append-drop, length-take-le}
use Rattle.ots_varint.specs.Varuint.{in_bytes, varuint, varbytes}
use Rattle.ots_varint.proofs.OneNumber.{in_bytes-low, in_bytes-high, limit}

in_bytes-last : (k n : ℕ) → n < 128 → in_bytes k n ≡ n ∷ []
in_bytes-last zero n low = refl
in_bytes-last (suc k) n low = in_bytes-low k n low

-- one byte is split off where the number goes on
in_bytes-split : (at rest : ℕ) → at ≤ 9 → 128 ≤ rest → rest < limit (9 - at)
    → (at < 9) × (in_bytes (9 - at) rest ≡ (128 + rest % 128) ∷ in_bytes (9 - (at + 1)) (rest / 128)) × (rest / 128 < limit (9 - (at + 1)))
in_bytes-split at rest early high small =
    elim (cases_lt at 9) [
      | inl lt ↦
          let more : 9 - at ≡ suc (9 - (at + 1)) = omega arith in
          let room : rest < 128 * limit (9 - (at + 1)) = rw more at small in
          (lt, rw more (in_bytes-high (9 - (at + 1)) rest high), omega arith)
      | inr le ↦ absurd (let last : 9 - at ≡ 0 = omega arith in let few : rest < 2 = rw last at small in omega arith)
    ]

limit_nine : limit 9 ≡ 2 ^ 64
limit_nine = refl

-- ---- into a buffer

-- `at` bytes are written, of a number of which `rest` is left
pub record IsWritten (n : ℕ) (before out : List ℕ) (at rest : ℕ) : Type 0 where
  pub early : at ≤ 9
  pub small : rest < limit (9 - at)
  pub prefix : varuint n ≡ take at out ++ in_bytes (9 - at) rest
  pub back : drop at out ≡ drop at before
  pub len : length out ≡ 10

pub begins : (n : ℕ) (out : List ℕ) → n < 2 ^ 64 → length out ≡ 10 → IsWritten n out out 0 n
unfolding varuint
begins n out small len = record { early = omega arith; small = rw limit_nine small; prefix = refl; back = refl; len = len }

drop_one : (at : ℕ) (xs : List ℕ) → drop 1 (drop at xs) ≡ drop (at + 1) xs
drop_one at xs = drop-drop 1 at xs

-- what stands after the next byte is as before
back_of : (before out : List ℕ) (at b : ℕ) → at < length out → drop at out ≡ drop at before → drop (at + 1) (set out at b) ≡ drop (at + 1) before
back_of before out at b here same =
    drop-set-lt (at + 1) out at b (omega arith) ∙ sym (drop_one at out) ∙ ap (λ (z : List ℕ). drop 1 z) same ∙ drop_one at before

pub goes_on : (n : ℕ) (before out : List ℕ) (at rest : ℕ) → IsWritten n before out at rest → 128 ≤ rest
    → IsWritten n before (set out at (128 + rest % 128)) (at + 1) (rest / 128)
goes_on n before out at rest h high =
    let b = 128 + rest % 128 in
    let split = in_bytes-split at rest h.early high h.small in
    let early = split.0 in
    let len = h.len in
    let here : at < length out = omega arith in
    record {
      early = omega arith;
      small = split.2;
      prefix = rw (take_more_set out at b here, append_assoc) (h.prefix ∙ ap (λ (z : List ℕ). take at out ++ z) split.1);
      back = back_of before out at b here h.back;
      len = length-set out at b ∙ h.len;
    }

pub ends : (n : ℕ) (before out : List ℕ) (at b : ℕ) → IsWritten n before out at b → b < 128
    → (at + 1 ≡ length (varuint n)) × (set out at b ≡ varuint n ++ drop (length (varuint n)) before)
ends n before out at b h low =
    let early = h.early in
    let len = h.len in
    let here : at < length out = omega arith in
    let spelled : varuint n ≡ take at out ++ b ∷ [] = h.prefix ∙ rw (in_bytes-last (9 - at) b low) refl in
    let prefix : varuint n ≡ take (at + 1) (set out at b) = spelled ∙ sym (take_more_set out at b here) in
    let size : length (varuint n) ≡ at + 1 = ap length prefix ∙ length-take-le (at + 1) (set out at b) (omega (arith, length-set out at b)) in (
      sym size,
      rw (size, prefix) (sym (take-append-drop (at + 1) (set out at b)) ∙ ap (λ (z : List ℕ). take (at + 1) (set out at b) ++ z) (back_of before out at b here h.back)),
    )

-- ---- after its length

pub varbytes_length : (x : List ℕ) → length (varbytes x) ≡ length (varuint (length x)) + length x
unfolding varbytes
varbytes_length x = length-append (varuint (length x)) x

-- bytes after their number, written at the start
pub after_written : (start : ℕ) (x middle old : List ℕ) → start ≡ length (varuint (length x)) → middle ≡ varuint (length x) ++ drop (length (varuint (length x))) old
    → take start middle ++ (x ++ drop (start + length x - start) (drop start middle)) ≡ varbytes x ++ drop (length (varbytes x)) old
unfolding varbytes
after_written start x middle old e f = rw (e, f) (grind (arith, common_steps))

-- ---- counted

-- `count` bytes are counted, the last of which begins what is left
pub record IsCounted (n count rest : ℕ) : Type 0 where
  pub some : 1 ≤ count
  pub early : count ≤ 10
  pub small : rest < limit (9 - (count - 1))
  pub counts : length (varuint n) + 1 ≡ count + length (in_bytes (9 - (count - 1)) rest)

pub count_begins : (n : ℕ) → n < 2 ^ 64 → IsCounted n 1 n
unfolding varuint
count_begins n small = record { some = omega arith; early = omega arith; small = rw limit_nine small; counts = omega arith }

pub count_goes_on : (n count rest : ℕ) → IsCounted n count rest → 128 ≤ rest → IsCounted n (count + 1) (rest / 128)
count_goes_on n count rest h high =
    let some = h.some in
    let early = h.early in
    let counts = h.counts in
    let split = in_bytes-split (count - 1) rest (omega arith) high h.small in
    let here = split.0 in
    let next : count - 1 + 1 ≡ count + 1 - 1 = omega arith in
    let small : rest / 128 < limit (9 - (count + 1 - 1)) = rw next at split.2 in
    let size : length (in_bytes (9 - (count - 1)) rest) ≡ 1 + length (in_bytes (9 - (count + 1 - 1)) (rest / 128)) = rw (split.1, next) (omega arith) in
    record { some = omega arith; early = omega arith; small = small; counts = omega arith }

pub count_ends : (n count rest : ℕ) → IsCounted n count rest → rest < 128 → count ≡ length (varuint n)
count_ends n count rest h low =
    let counts = h.counts in
    let last : length (in_bytes (9 - (count - 1)) rest) ≡ 1 = rw (in_bytes-last (9 - (count - 1)) rest low) refl in
    omega arith
