-- A fault stays, whatever follows, unless it was that the bytes end.
use Rattle.std.proofs.Common.{◌≡◌, ℕ, ◌+◌, ◌<◌, ◌≤◌, Bool, true, false, ltb, eqb, List, [], ◌∷◌, ◌++◌, length, take, drop, Option, Some, None, refl, sym, ap, subst, ◌∙◌, inl, inr, arith, append_assoc, length-append, length-drop}
use Rattle.std.specs.Prelude.{◌⊎◌, ◌≢◌, option_and_then}
use Rattle.std.proofs.lemmas.Bool.{cases_lt, lt-ltb, le-ltb}
use Rattle.std.proofs.lemmas.List.{take-append-le, drop-append-le}
use Rattle.ots_base.specs.Table.{line, first_line}
use Rattle.ots_varint.specs.declared.reading.VaruintRead.{VaruintRead}
use Rattle.ots_varint.specs.declared.reading.VaruintRead.TheVariants as read
use Rattle.ots_varint.specs.Reading.{reading}
use Rattle.ots_varint.proofs.ReadBack.{answer_stays}
use Rattle.ots_attest.specs.PayloadFault.{payload_fault}
use Rattle.ots_tree.specs.declared.shape.Shape.{Shape}
use Rattle.ots_tree.specs.Wire.{spell, spelled}
use Rattle.ots_reader.specs.declared.fault.Fault.{Fault}
use Rattle.ots_reader.specs.declared.fault.Reason.{Reason}
use Rattle.ots_reader.specs.declared.fault.Reason.TheVariants.{Truncated, ArgEmpty, ArgTooLong, PayloadTooLong}
use Rattle.ots_reader.specs.TokenFault.{token_fault, is_tag, as_reason, argument_fault, body_fault, attestation_fault}
use Rattle.ots_reader.specs.TreeFault.{IsReason, no_token, no_place, HasTreeFault}
use Rattle.ots_reader.proofs.NoTokenFault.{token_ok}
use Rattle.ots_reader.proofs.Tags.{Tag, attestation, append, prepend, alone, none, tag_of, decide}
use Rattle.ots_reader.proofs.TokenOrFault.{short_kind, whole_kind}
use Rattle.ots_reader.proofs.Walk.{begins_not}

-- ---- a number

short_or : (r : VaruintRead) → (r ≡ read.Short) ⊎ (r ≡ read.Short → ⊥)
short_or (read.Value n used) = inr (λ e. cc)
short_or read.Short = inl refl
short_or read.NonMinimal = inr (λ e. cc)
short_or read.TooLarge = inr (λ e. cc)

reading_more : (bytes x : List ℕ) → (reading bytes ≡ read.Short) ⊎ (reading (bytes ++ x) ≡ reading bytes)
reading_more bytes x =
    elim (short_or (reading bytes)) [
      | inl short ↦ inl short
      | inr settled ↦ inr (answer_stays bytes x settled)
    ]

-- ---- a fault that stays

-- known is no fault, or that the bytes end, or it is the same with more bytes
abbrev pub Stays : Option Reason → Option Reason → Type 0
Stays known longer = (known ≡ None) ⊎ ((known ≡ Some Truncated) ⊎ (longer ≡ known))

stop : {known longer : Option Reason} → known ≡ Some Truncated → Stays known longer
stop e = inr (inl e)

keep : {known longer : Option Reason} → longer ≡ known → Stays known longer
keep e = inr (inr e)

argument_lines : (a b c d : Bool) → Stays (first_line (line a ArgEmpty ∷ line b ArgTooLong ∷ line c Truncated ∷ [])) (first_line (line a ArgEmpty ∷ line b ArgTooLong ∷ line d Truncated ∷ []))
argument_lines true b c d = keep refl
argument_lines false true c d = keep refl
argument_lines false false true d = stop refl
argument_lines false false false d = inl refl

argument_same : (bytes x : List ℕ) (r : VaruintRead) → Stays (argument_fault r bytes) (argument_fault r (bytes ++ x))
argument_same bytes x read.Short = keep refl
argument_same bytes x read.NonMinimal = keep refl
argument_same bytes x read.TooLarge = keep refl
argument_same bytes x (read.Value n used) = argument_lines (eqb n 0) (ltb 4096 n) (ltb (length bytes) (used + n)) (ltb (length (bytes ++ x)) (used + n))

argument_more : (bytes x : List ℕ) → Stays (argument_fault (reading bytes) bytes) (argument_fault (reading (bytes ++ x)) (bytes ++ x))
argument_more bytes x =
    elim (reading_more bytes x) [
      | inl e ↦ stop (rw e refl)
      | inr e ↦ rw e (argument_same bytes x (reading bytes))
    ]

-- ---- an attestation

short_lines : (a b : Bool) (m p : Option Reason) → Stays (first_line (line a PayloadTooLong ∷ line true Truncated ∷ m ∷ [])) (first_line (line a PayloadTooLong ∷ line b Truncated ∷ p ∷ []))
short_lines true b m p = keep refl
short_lines false b m p = stop refl

body_short : (k bytes x : List ℕ) (n used : ℕ) → length bytes < used + n → Stays (body_fault k (read.Value n used) bytes) (body_fault k (read.Value n used) (bytes ++ x))
body_short k bytes x n used short =
    rw (lt-ltb (length bytes) (used + n) short) (short_lines (ltb 8192 n) (ltb (length (bytes ++ x)) (used + n))
    (option_and_then as_reason (payload_fault k (take n (drop used bytes)))) (option_and_then as_reason (payload_fault k (take n (drop used (bytes ++ x))))))

body_whole : (k bytes x : List ℕ) (n used : ℕ) → used + n ≤ length bytes → body_fault k (read.Value n used) (bytes ++ x) ≡ body_fault k (read.Value n used) bytes
body_whole k bytes x n used room =
    rw (
      le-ltb (length bytes) (used + n) room,
      le-ltb (length (bytes ++ x)) (used + n) (omega (arith, length-append bytes x)),
      drop-append-le used bytes x (omega arith),
      take-append-le n (drop used bytes) x (omega (arith, length-drop used bytes)),
    ) refl

body_same : (k bytes x : List ℕ) (r : VaruintRead) → Stays (body_fault k r bytes) (body_fault k r (bytes ++ x))
body_same k bytes x read.Short = keep refl
body_same k bytes x read.NonMinimal = keep refl
body_same k bytes x read.TooLarge = keep refl
body_same k bytes x (read.Value n used) =
    elim (cases_lt (length bytes) (used + n)) [
      | inl short ↦ body_short k bytes x n used short
      | inr room ↦ keep (body_whole k bytes x n used room)
    ]

body_more : (k bytes x : List ℕ) → Stays (body_fault k (reading bytes) bytes) (body_fault k (reading (bytes ++ x)) (bytes ++ x))
body_more k bytes x =
    elim (reading_more bytes x) [
      | inl e ↦ stop (rw e refl)
      | inr e ↦ rw e (body_same k bytes x (reading bytes))
    ]

stays_by : (a b c d : Option Reason) → a ≡ c → b ≡ d → Stays c d → Stays a b
stays_by a b c d e f h = rw (e, f) h

attestation_more : (after x : List ℕ) → Stays (attestation_fault after) (attestation_fault (after ++ x))
attestation_more after x =
    elim (cases_lt (length after) 8) [
      | inl short ↦ stop (short_kind after short)
      | inr room ↦
          let k = take 8 after in
          let body = drop 8 after in
          let longer : attestation_fault (after ++ x) ≡ body_fault k (reading (body ++ x)) (body ++ x) =
          whole_kind (after ++ x) (omega (arith, length-append after x)) ∙ rw (take-append-le 8 after x room, drop-append-le 8 after x room) refl in
          stays_by (attestation_fault after) (attestation_fault (after ++ x)) (body_fault k (reading body) body) (body_fault k (reading (body ++ x)) (body ++ x))
          (whole_kind after room) longer (body_more k body x)
    ]

-- ---- a token

abbrev More : ℕ → List ℕ → List ℕ → Type 0
More b after x = Stays (token_fault (b ∷ after)) (token_fault (b ∷ (after ++ x)))

at_attestation : (after x : List ℕ) → More 0x00 after x
unfolding token_fault
at_attestation after x = attestation_more after x

at_append : (after x : List ℕ) → More 0xf0 after x
unfolding token_fault
at_append after x = argument_more after x

at_prepend : (after x : List ℕ) → More 0xf1 after x
unfolding token_fault
at_prepend after x = argument_more after x

other_tag : (b : ℕ) (after x : List ℕ) → is_tag b ≡ false → More b after x
unfolding token_fault
other_tag b after x other =
    elim (decide (eqb b 0x67)) [
      | inl y ↦ rw y (keep refl)
      | inr n ↦ rw (n, other) (keep refl)
    ]

at_tag : (b : ℕ) (after x : List ℕ) → Tag b → More b after x
at_tag b after x (attestation e) = subst (λ (z : ℕ). More z after x) (sym e) (at_attestation after x)
at_tag b after x (append e) = subst (λ (z : ℕ). More z after x) (sym e) (at_append after x)
at_tag b after x (prepend e) = subst (λ (z : ℕ). More z after x) (sym e) (at_prepend after x)
at_tag b after x (alone y fits e) = inl (ap (λ (z : List ℕ). token_fault (z ++ after)) (sym e) ∙ token_ok y after fits)
at_tag b after x (none e) = other_tag b after x e

token_more : (bytes x : List ℕ) → Stays (token_fault bytes) (token_fault (bytes ++ x))
unfolding token_fault
token_more [] x = stop refl
token_more (b ∷ after) x = at_tag b after x (tag_of b)

stays_is : (known longer : Option Reason) (r : Reason) → r ≢ Truncated → known ≡ Some r → Stays known longer → longer ≡ Some r
stays_is known longer r other e (inl gone) = absurd cc
stays_is known longer r other e (inr (inl short)) = absurd (other cc)
stays_is known longer r other e (inr (inr is)) = is ∙ e

pub token_stays : (bytes more : List ℕ) (r : Reason) → r ≢ Truncated → token_fault bytes ≡ Some r → token_fault (bytes ++ more) ≡ Some r
token_stays bytes more r other e = stays_is (token_fault bytes) (token_fault (bytes ++ more)) r other e (token_more bytes more)

-- ---- a tree

reason_stays : (at : Shape) (others : List Shape) (forked : Bool) (rest more : List ℕ) (r : Reason) → r ≢ Truncated → IsReason at others forked rest r → IsReason at others forked (rest ++ more) r
reason_stays at others forked rest more r other (no_token absent e) =
    let longer = token_stays rest more r other e in
    no_token (λ x b. begins_not (rest ++ more) x r longer b) longer
reason_stays at others forked rest more r other (no_place x b gone e) =
    no_place x (record { fits = b.fits; rest = b.rest ++ more; spelled = ap (λ (z : List ℕ). z ++ more) b.spelled ∙ append_assoc (spell x) b.rest more }) gone e

pub fault_stays : (n k : ℕ) (input more : List ℕ) (f : Fault) → f.reason ≢ Truncated → HasTreeFault n k input f → HasTreeFault n k (input ++ more) f
fault_stays n k input more f other h = record {
  front = h.front;
  rest = h.rest ++ more;
  at = h.at;
  others = h.others;
  forked = h.forked;
  is_front = h.is_front;
  whole = ap (λ (z : List ℕ). z ++ more) h.whole ∙ append_assoc (spelled h.front) h.rest more;
  place = h.place;
  reason = reason_stays h.at h.others h.forked h.rest more f.reason other h.reason;
}
