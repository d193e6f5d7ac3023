-- A number is read where the bytes so far settle it.
use Rattle.std.proofs.Common.{◌≡◌, ℕ, suc, ◌+◌, ◌-◌, ◌<◌, ◌≤◌, Bool, true, false, cond, ltb, eqb, List, [], ◌∷◌, ◌++◌, length, take, drop, get_or, refl, sym, ap, ◌∙◌, arith, inl, inr}
use Rattle.std.specs.Prelude.{◌&&◌}
use Rattle.std.proofs.lemmas.Bool.{lt-ltb}
use Rattle.std.proofs.lemmas.List.{take-append-drop, length-take-le, take_more, take_all}
use Rattle.ots_varint.specs.declared.reading.VaruintRead.{VaruintRead}
use Rattle.ots_varint.specs.declared.reading.VaruintRead.TheVariants.{Value, Short, NonMinimal, TooLarge}
use Rattle.ots_varint.specs.declared.state.Step.TheVariants as step
use Rattle.ots_varint.specs.Reading.{above, reading_from, reading}
use Rattle.ots_varint.specs.Step.{step_of}
use Rattle.ots_varint.proofs.ReadBack.{above_value, cases_at, answer_stays}

above_short : (low : ℕ) (r : VaruintRead) → above low r ≡ Short → r ≡ Short
above_short low (Value n used) e = absurd cc
above_short low Short e = refl
above_short low NonMinimal e = absurd cc
above_short low TooLarge e = absurd cc

-- which test leaves a number short
short_at : (b : ℕ) (r : VaruintRead) (x y z : Bool) → cond x TooLarge (cond y NonMinimal (cond z (Value b 1) (above (b - 128) r))) ≡ Short
    → (x ≡ false) × (y ≡ false) × (z ≡ false) × (r ≡ Short)
short_at b r true y z e = absurd cc
short_at b r false true z e = absurd cc
short_at b r false false true e = absurd cc
short_at b r false false false e = (refl, refl, refl, above_short (b - 128) r e)

-- a number that the last byte ends takes all bytes
pub used_from : (i : ℕ) (bytes : List ℕ) (b n used : ℕ) → reading_from i bytes ≡ Short → reading_from i (bytes ++ b ∷ []) ≡ Value n used → used ≡ length bytes + 1
used_from i [] b n used short e =
    elim (cases_at i b Short n used e) [ inl h ↦ let one = h.one in omega arith | inr h ↦ let below = h.2 in absurd cc ]
used_from i (x ∷ xs) b n used short e =
    let s = short_at x (reading_from (suc i) xs) (eqb i 9 && ltb 1 x) (ltb 0 i && eqb x 0) (ltb x 128) short in
    let tail : above (x - 128) (reading_from (suc i) (xs ++ b ∷ [])) ≡ Value n used = rw (s.0, s.1, s.2) at e in
    let a = above_value (x - 128) (reading_from (suc i) (xs ++ b ∷ [])) n used tail in
    let ih = used_from (suc i) xs b a.0 a.1 s.3 a.2 in
    let one-more = a.4 in
    omega arith

pub step_value : (r : VaruintRead) (n : ℕ) → step.Value n ≡ step_of r → (used : ℕ) × (r ≡ Value n used)
step_value (Value m used) n e = (used, cc)
step_value Short n e = absurd cc
step_value NonMinimal n e = absurd cc
step_value TooLarge n e = absurd cc

step_non_minimal : (r : VaruintRead) → step.NonMinimal ≡ step_of r → r ≡ NonMinimal
step_non_minimal (Value m used) e = absurd cc
step_non_minimal Short e = absurd cc
step_non_minimal NonMinimal e = refl
step_non_minimal TooLarge e = absurd cc

step_too_large : (r : VaruintRead) → step.TooLarge ≡ step_of r → r ≡ TooLarge
step_too_large (Value m used) e = absurd cc
step_too_large Short e = absurd cc
step_too_large NonMinimal e = absurd cc
step_too_large TooLarge e = refl

pub step_more : (r : VaruintRead) → step.More ≡ step_of r → r ≡ Short
step_more (Value m used) e = absurd cc
step_more Short e = refl
step_more NonMinimal e = absurd cc
step_more TooLarge e = absurd cc

-- the first i bytes, which leave the number open
pub record IsOpen (fed bytes : List ℕ) (i : ℕ) : Type 0 where
  pub prefix : fed ≡ take i bytes
  pub short : reading fed ≡ Short

one_more : (fed bytes : List ℕ) (i : ℕ) → fed ≡ take i bytes → i < length bytes → fed ++ get_or bytes i 0 ∷ [] ≡ take (i + 1) bytes
one_more fed bytes i prefix here = ap (λ (z : List ℕ). z ++ get_or bytes i 0 ∷ []) prefix ∙ sym (take_more bytes i 0 here)

pub opened : (fed next bytes : List ℕ) (i : ℕ) → IsOpen fed bytes i → i < length bytes → next ≡ fed ++ get_or bytes i 0 ∷ [] → step.More ≡ step_of (reading (fed ++ get_or bytes i 0 ∷ []))
    → IsOpen next bytes (i + 1)
opened fed next bytes i h here is e = record {
  prefix = is ∙ one_more fed bytes i h.prefix here;
  short = ap reading is ∙ step_more (reading (fed ++ get_or bytes i 0 ∷ [])) e;
}

-- what the first i + 1 bytes settle is the answer
settles : (fed bytes : List ℕ) (i : ℕ) (r : VaruintRead) → IsOpen fed bytes i → i < length bytes → reading (fed ++ get_or bytes i 0 ∷ []) ≡ r → (r ≡ Short → ⊥) → r ≡ reading bytes
settles fed bytes i r h here e settled =
    let prefix = one_more fed bytes i h.prefix here in
    let is : reading (take (i + 1) bytes) ≡ r = ap reading (sym prefix) ∙ e in
    sym is ∙ sym (answer_stays (take (i + 1) bytes) (drop (i + 1) bytes) (λ short. settled (sym is ∙ short))) ∙ ap reading (take-append-drop (i + 1) bytes)

pub settles_value : (fed bytes : List ℕ) (i n : ℕ) → IsOpen fed bytes i → i < length bytes → step.Value n ≡ step_of (reading (fed ++ get_or bytes i 0 ∷ [])) → Value n (i + 1) ≡ reading bytes
unfolding reading
settles_value fed bytes i n h here e =
    let v = step_value (reading (fed ++ get_or bytes i 0 ∷ [])) n e in
    let len : length fed ≡ i = ap length h.prefix ∙ length-take-le i bytes (omega arith) in
    let all = used_from 0 fed (get_or bytes i 0) n v.0 h.short v.1 in
    let used : v.0 ≡ i + 1 = omega arith in
    settles fed bytes i (Value n (i + 1)) h here (v.1 ∙ ap (λ z. Value n z) used) (λ short. cc)

pub settles_non_minimal : (fed bytes : List ℕ) (i : ℕ) → IsOpen fed bytes i → i < length bytes → step.NonMinimal ≡ step_of (reading (fed ++ get_or bytes i 0 ∷ [])) → NonMinimal ≡ reading bytes
settles_non_minimal fed bytes i h here e = settles fed bytes i NonMinimal h here (step_non_minimal (reading (fed ++ get_or bytes i 0 ∷ [])) e) (λ short. cc)

pub settles_too_large : (fed bytes : List ℕ) (i : ℕ) → IsOpen fed bytes i → i < length bytes → step.TooLarge ≡ step_of (reading (fed ++ get_or bytes i 0 ∷ [])) → TooLarge ≡ reading bytes
settles_too_large fed bytes i h here e = settles fed bytes i TooLarge h here (step_too_large (reading (fed ++ get_or bytes i 0 ∷ [])) e) (λ short. cc)

-- no byte is left
pub all_open : (fed bytes : List ℕ) (i : ℕ) → IsOpen fed bytes i → length bytes ≤ i → Short ≡ reading bytes
all_open fed bytes i h at = sym h.short ∙ ap reading (h.prefix ∙ take_all i bytes at)

pub reading_nothing : (fed : List ℕ) → fed ≡ [] → reading fed ≡ Short
unfolding reading
reading_nothing fed e = ap (reading_from 0) e

-- a number below 128 ends with its first byte
pub at_once : (b : ℕ) (rest : List ℕ) → b < 128 → reading (b ∷ rest) ≡ Value b 1
unfolding reading
at_once b rest low = rw (lt-ltb b 128 low) refl
