-- A number that comes byte by byte ends exactly where its bytes spell it.
use Rattle.std.proofs.Common.{◌≡◌, ℕ, ◌^◌, ◌<◌, ◌≤◌, Bool, true, false, cond, ltb, List, [], ◌∷◌, ◌++◌, length, drop, refl, sym, ap, subst, ◌∙◌, arith, length-append}
use Rattle.std.specs.Prelude.{◌↔◌}
use Rattle.std.specs.List.{AllByRecursion}
use Rattle.std.proofs.lemmas.Bool.{ltb-false, le-ltb}
use Rattle.std.proofs.lemmas.List.{append-nil, drop_all}
use Rattle.ots_varint.specs.Continued.{continued, IsPartial}
use Rattle.ots_varint.specs.Reading.{reading}
use Rattle.ots_varint.specs.Step.{step_of}
use Rattle.ots_varint.specs.Varuint.{varuint}
use Rattle.ots_varint.specs.LengthStep.{length_step}
use Rattle.ots_varint.specs.declared.reading.VaruintRead.{VaruintRead}
use Rattle.ots_varint.specs.declared.reading.VaruintRead.TheVariants.{Value, Short, NonMinimal, TooLarge}
use Rattle.ots_varint.specs.declared.state.Step.{Step}
use Rattle.ots_varint.specs.declared.state.Step.TheVariants as step
use Rattle.ots_varint.specs.declared.varbytes_state.LengthStep.{LengthStep}
use Rattle.ots_varint.specs.declared.varbytes_state.LengthStep.TheVariants as step_length
use Rattle.ots_varint.proofs.Fed.{open_so_far, bytes_so_far}
use Rattle.ots_varint.proofs.ReadBack.{reading_is, reading_again}
use Rattle.ots_varint.proofs.Settled.{used_from, step_value}

-- the last byte ends the number, so all bytes spell it
all_spell : (fed : List ℕ) (b n used : ℕ) → AllByRecursion (λ b. b < 256) (fed ++ b ∷ []) → reading fed ≡ Short → reading (fed ++ b ∷ []) ≡ Value n used
    → (n < 2 ^ 64) × (fed ++ b ∷ [] ≡ varuint n)
unfolding reading
all_spell fed b n used bytes short e =
    let at = reading_is (fed ++ b ∷ []) n used bytes e in
    let all = used_from 0 fed b n used short e in
    let rest : drop used (fed ++ b ∷ []) ≡ [] = drop_all used (fed ++ b ∷ []) (omega (arith, length-append fed (b ∷ []))) in
    (at.small, at.prefix ∙ ap (λ (z : List ℕ). varuint n ++ z) rest ∙ append-nil (varuint n))

-- a spelling reads as its number
whole : (n : ℕ) → n < 2 ^ 64 → reading (varuint n) ≡ Value n (length (varuint n))
whole n small = ap reading (sym (append-nil (varuint n))) ∙ reading_again n [] small

ends_at : (fed : List ℕ) (b : ℕ) (r : Step) → AllByRecursion (λ b. b < 256) (fed ++ b ∷ []) → reading fed ≡ Short → r ≡ step_of (reading (fed ++ b ∷ []))
    → (n : ℕ) → (r ≡ step.Value n) ↔ ((n < 2 ^ 64) × (fed ++ b ∷ [] ≡ varuint n))
ends_at fed b r bytes short is n = (
  λ e. let v = step_value (reading (fed ++ b ∷ [])) n (sym e ∙ is) in all_spell fed b n v.0 bytes short v.1,
  λ h. is ∙ ap step_of (ap reading h.1 ∙ whole n h.0),
)

-- of the bytes that a state keeps
pub ends : (v s i b : ℕ) (fed : List ℕ) {r : Step} → continued i v ≡ fed → IsPartial v s i → b < 256 → r ≡ step_of (reading (fed ++ b ∷ []))
    → (n : ℕ) → (r ≡ step.Value n) ↔ ((n < 2 ^ 64) × (fed ++ b ∷ [] ≡ varuint n))
ends v s i b fed kept h byte is =
    let bytes : AllByRecursion (λ b. b < 256) (fed ++ b ∷ []) = subst (λ (z : List ℕ). AllByRecursion (λ b. b < 256) (z ++ b ∷ [])) kept (bytes_so_far i v b byte) in
    ends_at fed b _ bytes (ap reading (sym kept) ∙ open_so_far v s i h) is

-- ---- of a length within its bounds

-- a number within its bounds is a length
length_of : (least greatest n : ℕ) (low high : Bool) → low ≡ ltb n least → high ≡ ltb greatest n → (m : ℕ)
    → cond low (step_length.TooShort n) (cond high (step_length.TooLong n) (step_length.Length n)) ≡ step_length.Length m → (least ≤ m) × (m ≤ greatest) × (n ≡ m)
length_of least greatest n true high l h m e = absurd cc
length_of least greatest n false true l h m e = absurd cc
length_of least greatest n false false l h m e =
    let same : n ≡ m = cc in
    (rw (← same) (ltb-false n least (sym l)), rw (← same) (ltb-false greatest n (sym h)), same)

pub length_ends : (least greatest : ℕ) (seen : List ℕ) (read : VaruintRead) (r : Step) {answer : LengthStep} → greatest < 2 ^ 64 → r ≡ step_of read
    → ((n : ℕ) → (r ≡ step.Value n) ↔ ((n < 2 ^ 64) × (seen ≡ varuint n))) → answer ≡ length_step least greatest read
    → (n : ℕ) → (answer ≡ step_length.Length n) ↔ ((least ≤ n) × (n ≤ greatest) × (seen ≡ varuint n))
length_ends least greatest seen Short r few is spelled made n = (
  λ e. absurd cc,
  λ h. absurd (let v = (spelled n).1 (omega (arith, h.1), h.2) in cc),
)
length_ends least greatest seen NonMinimal r few is spelled made n = (
  λ e. absurd cc,
  λ h. absurd (let v = (spelled n).1 (omega (arith, h.1), h.2) in cc),
)
length_ends least greatest seen TooLarge r few is spelled made n = (
  λ e. absurd cc,
  λ h. absurd (let v = (spelled n).1 (omega (arith, h.1), h.2) in cc),
)
length_ends least greatest seen (Value m used) r few is spelled made n = (
  λ e.
      let l = length_of least greatest m (ltb m least) (ltb greatest m) refl refl n (sym made ∙ e) in
      let v = (spelled m).0 is in
      (l.0, l.1, v.1 ∙ ap varuint l.2),
  λ h.
      let v = (spelled n).1 (omega (arith, h.1), h.2) in
      let same : m ≡ n = cc in
      made ∙ rw (same, le-ltb n least h.0, le-ltb greatest n h.1) refl,
)
