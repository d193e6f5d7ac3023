-- What is read is spelled so, and what is spelled so is read.
use Rattle.std.proofs.Common.{◌≡◌, ℕ, zero, suc, ◌+◌, ◌-◌, ◌*◌, ◌/◌, ◌%◌, ◌^◌, ◌<◌, ◌≤◌, Bool, true, false, cond, ltb, eqb, List, [], ◌∷◌, ◌++◌, length, drop, refl, ap, ◌∙◌, inl, inr, arith, add-one, get_or, sym}
use Rattle.std.specs.Prelude.{◌&&◌, ◌⊎◌}
use Rattle.std.specs.List.{AllByRecursion}
use Rattle.std.proofs.lemmas.Bool.Decides.{nat_tests}
use Rattle.std.proofs.lemmas.Bool.{cases_lt, lt-ltb, le-ltb, ltb-true, ltb-false}
use Rattle.ots_varint.specs.declared.reading.VaruintRead.{VaruintRead}
use Rattle.ots_varint.specs.declared.reading.VaruintRead.TheVariants.{Value, Short, NonMinimal, TooLarge}
use Rattle.ots_varint.specs.Varuint.{in_bytes, varuint}
use Rattle.ots_varint.specs.Reading.{above, reading_from, reading, IsSpelledAt}
use Rattle.ots_varint.proofs.OneNumber.{in_bytes-low, in_bytes-high, limit}

no-large : (i b : ℕ) → (i ≡ 9 → b < 2) → (eqb i 9 && ltb 1 b) ≡ false
no-large i b small = grind (arith, nat_tests)

no-zero : (i b : ℕ) → (0 < i → 0 < b) → (ltb 0 i && eqb b 0) ≡ false
no-zero i b shortest = grind (arith, nat_tests)

at_low : (i b : ℕ) (bs : List ℕ) → (i ≡ 9 → b < 2) → (0 < i → 0 < b) → b < 128 → reading_from i (b ∷ bs) ≡ Value b 1
at_low i b bs small shortest low = rw (no-large i b small, no-zero i b shortest, lt-ltb b 128 low) refl

pub at_high : (i b : ℕ) (bs : List ℕ) → i < 9 → 128 ≤ b → reading_from i (b ∷ bs) ≡ above (b - 128) (reading_from (suc i) bs)
at_high i b bs early high = rw (no-large i b (λ e. absurd (omega arith)), no-zero i b (λ _. omega arith), le-ltb b 128 high) refl

-- what is spelled so is read
again : (k i n : ℕ) (rest : List ℕ) → i + k ≡ 9 → n < limit k → (0 < i → 0 < n) → reading_from i (in_bytes k n ++ rest) ≡ Value n (length (in_bytes k n))
again zero i n rest at small shortest = at_low i n rest (λ _. small) shortest (omega arith)
again (suc k) i n rest at small shortest =
    elim (cases_lt n 128) [
      | inl low ↦ rw (in_bytes-low k n low) (at_low i n rest (λ e. absurd (omega arith)) shortest low)
      | inr high ↦
          let ih = again k (suc i) (n / 128) rest (omega arith) (omega arith) (λ _. omega arith) in
          let byte : 128 + n % 128 - 128 ≡ n % 128 = omega arith in
          let back : n % 128 + 128 * (n / 128) ≡ n = omega arith in
          rw (in_bytes-high k n high)
          (at_high i (128 + n % 128) (in_bytes k (n / 128) ++ rest) (omega arith) (omega arith)
          ∙ rw (ih, byte, back, add-one) refl)
    ]

limit_positive : (k : ℕ) → 1 ≤ limit k
limit_positive zero = omega arith
limit_positive (suc k) = let h = limit_positive k in omega arith

limit_is : limit 9 ≡ 2 ^ 64
limit_is = refl

pub reading_again : (n : ℕ) (rest : List ℕ) → n < 2 ^ 64 → reading (varuint n ++ rest) ≡ Value n (length (varuint n))
unfolding reading varuint
reading_again n rest small = again 9 0 n rest refl (rw limit_is small) (λ h. absurd (omega arith))

-- ---- what is read is spelled so

-- a value, what it needs to stand at position i, and its spelling
record Spells (k i n used : ℕ) (bytes : List ℕ) : Type 0 where
  small : n < limit k
  shortest : 0 < i → 0 < n
  spelling : bytes ≡ in_bytes k n ++ drop used bytes
  len : used ≡ length (in_bytes k n)

-- the value above seven low bits
pub above_value : (low : ℕ) (r : VaruintRead) (n used : ℕ) → above low r ≡ Value n used → (m : ℕ) × (v : ℕ) × (r ≡ Value m v) × (n ≡ low + 128 * m) × (used ≡ v + 1)
above_value low (Value m v) n used e = (m, v, refl, cc, cc)
above_value low Short n used e = absurd cc
above_value low NonMinimal n used e = absurd cc
above_value low TooLarge n used e = absurd cc

-- which test gave a value
pub record Low (i b n used : ℕ) : Type 0 where
  pub small : i ≡ 9 → b < 2
  pub shortest : 0 < i → 0 < b
  pub low : b < 128
  pub value : n ≡ b
  pub one : used ≡ 1

tests : (b : ℕ) (r : VaruintRead) (n used : ℕ) (x y z : Bool) → cond x TooLarge (cond y NonMinimal (cond z (Value b 1) (above (b - 128) r))) ≡ Value n used
    → (x ≡ false) × (y ≡ false) × (((z ≡ true) × (n ≡ b) × (used ≡ 1)) ⊎ ((z ≡ false) × (above (b - 128) r ≡ Value n used)))
tests b r n used true y z e = absurd cc
tests b r n used false true z e = absurd cc
tests b r n used false false true e = (refl, refl, inl (refl, cc, cc))
tests b r n used false false false e = (refl, refl, inr (refl, e))

pub small_if : (i b : ℕ) → (eqb i 9 && ltb 1 b) ≡ false → i ≡ 9 → b < 2
small_if i b e is = grind (arith, nat_tests)

shortest_if : (i b : ℕ) → (ltb 0 i && eqb b 0) ≡ false → 0 < i → 0 < b
shortest_if i b e is = grind (arith, nat_tests)

pub cases_at : (i b : ℕ) (r : VaruintRead) (n used : ℕ)
    → cond (eqb i 9 && ltb 1 b) TooLarge (cond (ltb 0 i && eqb b 0) NonMinimal (cond (ltb b 128) (Value b 1) (above (b - 128) r))) ≡ Value n used
    → Low i b n used ⊎ ((128 ≤ b) × ((i ≡ 9) → b < 2) × (above (b - 128) r ≡ Value n used))
cases_at i b r n used e =
    let t = tests b r n used (eqb i 9 && ltb 1 b) (ltb 0 i && eqb b 0) (ltb b 128) e in
    let small : i ≡ 9 → b < 2 = small_if i b t.0 in
    let shortest : 0 < i → 0 < b = shortest_if i b t.1 in
    elim t.2 [
      | inl h ↦ inl (record { small = small; shortest = shortest; low = ltb-true b 128 h.0; value = h.1; one = h.2 })
      | inr h ↦ inr (ltb-false b 128 h.0, small, h.1)
    ]

low_spells : (k i b n used : ℕ) (bs : List ℕ) → b < limit k → in_bytes k b ≡ b ∷ [] → Low i b n used → Spells k i n used (b ∷ bs)
low_spells k i b n used bs fits spelled h =
    rw (h.value, h.one) (record { small = fits; shortest = h.shortest; spelling = rw spelled refl; len = rw spelled refl })

high_spells : (k i b m v : ℕ) (bs : List ℕ) → 128 ≤ b → b < 256 → Spells k (suc i) m v bs → Spells (suc k) i (b - 128 + 128 * m) (v + 1) (b ∷ bs)
high_spells k i b m v bs high byte h =
    let positive : 0 < m = h.shortest (omega arith) in
    let small = h.small in
    let low : 128 + (b - 128 + 128 * m) % 128 ≡ b = omega arith in
    let above : (b - 128 + 128 * m) / 128 ≡ m = omega arith in
    let is : in_bytes (suc k) (b - 128 + 128 * m) ≡ b ∷ in_bytes k m = in_bytes-high k (b - 128 + 128 * m) (omega arith) ∙ rw (low, above) refl in
    record {
      small = omega arith;
      shortest = λ _. omega arith;
      spelling = rw (is, add-one) (ap (λ (z : List ℕ). b ∷ z) h.spelling);
      len = rw is (omega (arith, h.len));
    }

high_is : (k i b m v : ℕ) (bs : List ℕ) (n used : ℕ) → n ≡ b - 128 + 128 * m → used ≡ v + 1 → 128 ≤ b → b < 256 → Spells k (suc i) m v bs → Spells (suc k) i n used (b ∷ bs)
high_is k i b m v bs n used e f high byte h = rw (e, f) (high_spells k i b m v bs high byte h)

read_is : (k i : ℕ) (bytes : List ℕ) (n used : ℕ) → i + k ≡ 9 → AllByRecursion (λ b. b < 256) bytes → reading_from i bytes ≡ Value n used → Spells k i n used bytes
read_is k i [] n used at fits e = absurd cc
read_is zero i (b ∷ bs) n used at fits e =
    elim (cases_at i b (reading_from (suc i) bs) n used e) [
      | inl h ↦ low_spells zero i b n used bs (h.small (omega arith)) refl h
      | inr h ↦ absurd (let s = h.1 (omega arith) in let b-high = h.0 in omega arith)
    ]
read_is (suc k) i (b ∷ bs) n used at fits e =
    elim (cases_at i b (reading_from (suc i) bs) n used e) [
      | inl h ↦ low_spells (suc k) i b n used bs (let low = h.low in let room = limit_positive k in omega arith) (in_bytes-low k b h.low) h
      | inr h ↦
          let a = above_value (b - 128) (reading_from (suc i) bs) n used h.2 in
          high_is k i b a.0 a.1 bs n used a.3 a.4 h.0 fits.0 (read_is k (suc i) bs a.0 a.1 (omega arith) fits.1 a.2)
    ]

pub reading_is : (bytes : List ℕ) (n used : ℕ) → AllByRecursion (λ b. b < 256) bytes → reading bytes ≡ Value n used → IsSpelledAt bytes n used
unfolding reading varuint
reading_is bytes n used fits e =
    let s = read_is 9 0 bytes n used refl fits e in
    record { small = rw (← limit_is) s.small; prefix = s.spelling; len = s.len }

pub spelled_is : (bytes : List ℕ) (n used : ℕ) → IsSpelledAt bytes n used → reading bytes ≡ Value n used
spelled_is bytes n used h =
    ap reading h.prefix ∙ reading_again n (drop used bytes) h.small ∙ ap (λ z. Value n z) (sym h.len)

-- the elements of a slice of bytes
pub all_bytes : (bytes : List ℕ) → ((k : ℕ) → get_or bytes k 0 < 256) → AllByRecursion (λ b. b < 256) bytes
all_bytes [] h = tt
all_bytes (b ∷ bs) h = (h 0, all_bytes bs (λ k. h (suc k)))

-- a value is answered exactly where its spelling stands
pub value_iff : (bytes : List ℕ) (r : VaruintRead) → ((k : ℕ) → get_or bytes k 0 < 256) → r ≡ reading bytes → (n used : ℕ) → (r ≡ Value n used → IsSpelledAt bytes n used) × (IsSpelledAt bytes n used → r ≡ Value n used)
value_iff bytes r fits is n used =
    (λ e. reading_is bytes n used (all_bytes bytes fits) (sym is ∙ e), λ h. is ∙ spelled_is bytes n used h)

-- ---- what follows an answer

above_short : (low : ℕ) (r : VaruintRead) → (above low r ≡ Short → ⊥) → r ≡ Short → ⊥
above_short low r settled e = settled (ap (above low) e)

stays_from : (i : ℕ) (bytes rest : List ℕ) → (reading_from i bytes ≡ Short → ⊥) → reading_from i (bytes ++ rest) ≡ reading_from i bytes
stays_from i [] rest settled = absurd (settled refl)
stays_from i (b ∷ bs) rest settled =
    let tail : (above (b - 128) (reading_from (suc i) bs) ≡ Short → ⊥) → above (b - 128) (reading_from (suc i) (bs ++ rest)) ≡ above (b - 128) (reading_from (suc i) bs) =
    λ h. ap (above (b - 128)) (stays_from (suc i) bs rest (above_short (b - 128) (reading_from (suc i) bs) h)) in
    stays_at (eqb i 9 && ltb 1 b) (ltb 0 i && eqb b 0) (ltb b 128) b (reading_from (suc i) bs) (reading_from (suc i) (bs ++ rest)) tail settled
  where
    stays_at : (x y z : Bool) (b : ℕ) (r s : VaruintRead) → ((above (b - 128) r ≡ Short → ⊥) → above (b - 128) s ≡ above (b - 128) r)
        → (cond x TooLarge (cond y NonMinimal (cond z (Value b 1) (above (b - 128) r))) ≡ Short → ⊥)
        → cond x TooLarge (cond y NonMinimal (cond z (Value b 1) (above (b - 128) s))) ≡ cond x TooLarge (cond y NonMinimal (cond z (Value b 1) (above (b - 128) r)))
    stays_at true y z b r s tail settled = refl
    stays_at false true z b r s tail settled = refl
    stays_at false false true b r s tail settled = refl
    stays_at false false false b r s tail settled = tail settled

pub answer_stays : (bytes rest : List ℕ) → (reading bytes ≡ Short → ⊥) → reading (bytes ++ rest) ≡ reading bytes
unfolding reading
answer_stays bytes rest settled = stays_from 0 bytes rest settled
