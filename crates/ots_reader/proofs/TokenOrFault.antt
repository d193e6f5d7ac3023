-- Bytes begin with a token, or have a fault of the table.
use Rattle.std.proofs.Common.{◌≡◌, ℕ, suc, ◌+◌, ◌<◌, ◌≤◌, Bool, true, false, ltb, eqb, List, [], ◌∷◌, ◌++◌, length, take, drop, Option, Some, refl, sym, ap, subst, ◌∙◌, inl, inr, arith, append_assoc, length-append, length-drop}
use Rattle.std.specs.Prelude.{◌⊎◌, ◌≢◌, option_and_then}
use Rattle.std.proofs.lemmas.Bool.{cases_lt, lt-ltb, le-ltb, ltb-false}
use Rattle.std.proofs.lemmas.Bool.Decides.{nat_tests}
use Rattle.std.proofs.lemmas.List.{drop-drop, take-append-drop, length-take-le}
use Rattle.ots_base.specs.Table.{line, first_line}
use Rattle.ots_varint.specs.declared.reading.VaruintRead.{VaruintRead}
use Rattle.ots_varint.specs.declared.reading.VaruintRead.TheVariants as read
use Rattle.ots_varint.specs.Varuint.{varbytes}
use Rattle.ots_varint.specs.Reading.{reading, IsSpelledAt}
use Rattle.ots_varint.proofs.ReadBack.{reading_is}
use Rattle.ots_ops.specs.Arg.{AreBytes}
use Rattle.ots_ops.specs.declared.op.Op.TheVariants as op
use Rattle.ots_attest.specs.declared.attestation.Attestation.{Attestation}
use Rattle.ots_attest.specs.declared.payload.PayloadError.{PayloadError}
use Rattle.ots_attest.specs.declared.payload.PayloadError.TheVariants as payload_error
use Rattle.ots_attest.specs.Attestation.{kind, payload}
use Rattle.ots_attest.specs.PayloadFault.{payload_fault}
use Rattle.ots_attest.proofs.PayloadOrFault.{Faulty, payload_or_fault}
use Rattle.ots_tree.specs.declared.token.Token.{Token}
use Rattle.ots_tree.specs.declared.token.Token.TheVariants as token
use Rattle.ots_tree.specs.Wire.{spell, IsToken}
use Rattle.ots_reader.specs.declared.fault.Reason.{Reason}
use Rattle.ots_reader.specs.declared.fault.Reason.TheVariants.{Truncated, UnknownOp, Keccak, NonMinimal, VaruintTooLarge, ArgEmpty, ArgTooLong, PayloadTooLong, BadUri, PayloadRest, PayloadShort, PayloadVaruint}
use Rattle.ots_reader.specs.TokenFault.{token_fault, is_tag, argument_fault, body_fault, attestation_fault, as_reason}
use Rattle.ots_reader.specs.TokenRead.{IsTokenAt, IsArgAt, IsBodyAt, IsAttestationAt}
use Rattle.ots_reader.proofs.ByteLists.{all_take, all_drop}
use Rattle.ots_reader.proofs.TokenReadLemmas.{argument_at, body_at}
use Rattle.ots_reader.proofs.Tags.{Tag, attestation, append, prepend, alone, none, tag_of, decide}

pub record HasReason (known : Option Reason) : Type 0 where
  pub reason : Reason
  pub is : known ≡ Some reason

because : {known : Option Reason} (r : Reason) → known ≡ Some r → HasReason known
because r e = record { reason = r; is = e }

-- the numbers that some bytes may begin with
abbrev Spelled : List ℕ → VaruintRead → Type 0
Spelled bytes r = (n used : ℕ) → r ≡ read.Value n used → IsSpelledAt bytes n used

spelled_at : (bytes : List ℕ) → AreBytes bytes → Spelled bytes (reading bytes)
spelled_at bytes all n used e = reading_is bytes n used all e

-- ---- an argument

record ArgumentBegins (bytes : List ℕ) : Type 0 where
  argument : List ℕ
  used : ℕ
  is : IsArgAt bytes argument used

argument_lines_or : (a b c : Bool) → HasReason (first_line (line a ArgEmpty ∷ line b ArgTooLong ∷ line c Truncated ∷ [])) ⊎ ((a ≡ false) × (b ≡ false) × (c ≡ false))
argument_lines_or true b c = inl (because ArgEmpty refl)
argument_lines_or false true c = inl (because ArgTooLong refl)
argument_lines_or false false true = inl (because Truncated refl)
argument_lines_or false false false = inr (refl, refl, refl)

positive : (n : ℕ) → eqb n 0 ≡ false → 1 ≤ n
positive n e = grind (arith, nat_tests)

argument_or : (bytes : List ℕ) (r : VaruintRead) → Spelled bytes r → AreBytes bytes → HasReason (argument_fault r bytes) ⊎ ArgumentBegins bytes
argument_or bytes read.Short at all = inl (because Truncated refl)
argument_or bytes read.NonMinimal at all = inl (because NonMinimal refl)
argument_or bytes read.TooLarge at all = inl (because VaruintTooLarge refl)
argument_or bytes (read.Value n used) at all =
    elim (argument_lines_or (eqb n 0) (ltb 4096 n) (ltb (length bytes) (used + n))) [
      | inl f ↦ inl f
      | inr h ↦ inr (record {
        argument = take n (drop used bytes);
        used = used + n;
        is = argument_at n used bytes (at n used refl) all (ltb-false (length bytes) (used + n) h.2) (positive n h.0) (ltb-false 4096 n h.1);
      })
    ]

-- ---- an attestation

record BodyBegins (k bytes : List ℕ) : Type 0 where
  a : Attestation
  used : ℕ
  is : IsBodyAt k bytes a used

reason_of : (e : PayloadError) → e ≢ payload_error.OutOfMemory → HasReason (as_reason e)
reason_of payload_error.BadUri h = because BadUri refl
reason_of payload_error.PayloadRest h = because PayloadRest refl
reason_of payload_error.PayloadShort h = because PayloadShort refl
reason_of payload_error.PayloadVaruint h = because PayloadVaruint refl
reason_of payload_error.OutOfMemory h = absurd (h refl)

-- the lines before the payload's own
before_or : (a b : Bool) (m : Option Reason) → HasReason (first_line (line a PayloadTooLong ∷ line b Truncated ∷ m ∷ [])) ⊎ ((a ≡ false) × (b ≡ false))
before_or true b m = inl (because PayloadTooLong refl)
before_or false true m = inl (because Truncated refl)
before_or false false m = inr (refl, refl)

last_line : (a b : Bool) (f : Option PayloadError) → a ≡ false → b ≡ false → Faulty f → HasReason (first_line (line a PayloadTooLong ∷ line b Truncated ∷ option_and_then as_reason f ∷ []))
last_line a b f no-a no-b h =
    let r = reason_of h.0 h.2 in
    because r.reason (rw (no-a, no-b, h.1, r.is) refl)

body_or : (k bytes : List ℕ) (r : VaruintRead) → length k ≡ 8 → AreBytes k → AreBytes bytes → Spelled bytes r → HasReason (body_fault k r bytes) ⊎ BodyBegins k bytes
body_or k bytes read.Short len ks bs at = inl (because Truncated refl)
body_or k bytes read.NonMinimal len ks bs at = inl (because NonMinimal refl)
body_or k bytes read.TooLarge len ks bs at = inl (because VaruintTooLarge refl)
body_or k bytes (read.Value n used) len ks bs at =
    let p = take n (drop used bytes) in
    elim (before_or (ltb 8192 n) (ltb (length bytes) (used + n)) (option_and_then as_reason (payload_fault k p))) [
      | inl f ↦ inl f
      | inr h ↦
          let room : used + n ≤ length bytes = ltb-false (length bytes) (used + n) h.1 in
          let few : n ≤ 8192 = ltb-false 8192 n h.0 in
          let size : length p ≡ n = length-take-le n (drop used bytes) (omega (arith, length-drop used bytes)) in
          elim (payload_or_fault k p len ks (all_take (λ b. b < 256) n (drop used bytes) (all_drop (λ b. b < 256) used bytes bs)) (omega arith)) [
            | inl f ↦ inl (last_line (ltb 8192 n) (ltb (length bytes) (used + n)) (payload_fault k p) h.0 h.1 f)
            | inr (a, is) ↦ inr (record { a = a; used = used + n; is = body_at n used k bytes a (at n used refl) room is })
          ]
    ]

pub short_kind : (after : List ℕ) → length after < 8 → attestation_fault after ≡ Some Truncated
short_kind after h = rw (lt-ltb (length after) 8 h) refl

pub whole_kind : (after : List ℕ) → 8 ≤ length after → attestation_fault after ≡ body_fault (take 8 after) (reading (drop 8 after)) (drop 8 after)
whole_kind after h = rw (le-ltb (length after) 8 h) refl

record AttestationBegins (after : List ℕ) : Type 0 where
  a : Attestation
  used : ℕ
  is : IsAttestationAt after a used

attested : (after : List ℕ) → BodyBegins (take 8 after) (drop 8 after) → 8 ≤ length after → AttestationBegins after
attested after b room =
    let i = b.is in
    let v = varbytes (payload b.a) in
    let k : kind b.a ≡ take 8 after = i.kind in
    let whole : after ≡ (kind b.a ++ v) ++ drop (8 + b.used) after =
    sym (take-append-drop 8 after) ∙ ap (λ (z : List ℕ). take 8 after ++ z) (i.front ∙ ap (λ (z : List ℕ). v ++ z) (drop-drop b.used 8 after))
    ∙ ap (λ (z : List ℕ). z ++ (v ++ drop (8 + b.used) after)) (sym k) ∙ sym (append_assoc (kind b.a) v (drop (8 + b.used) after)) in
    record {
      a = b.a;
      used = 8 + b.used;
      is = record { fits = i.fits; front = whole; len = omega (arith, i.len, length-append (kind b.a) v, ap length k, length-take-le 8 after room) };
    }

attestation_or : (after : List ℕ) → AreBytes after → HasReason (attestation_fault after) ⊎ AttestationBegins after
attestation_or after all =
    elim (cases_lt (length after) 8) [
      | inl short ↦ inl (because Truncated (short_kind after short))
      | inr room ↦
          let body = all_drop (λ b. b < 256) 8 after all in
          elim (body_or (take 8 after) (drop 8 after) (reading (drop 8 after)) (length-take-le 8 after room) (all_take (λ b. b < 256) 8 after all) body (spelled_at (drop 8 after) body)) [
            | inl f ↦ inl (because f.reason (whole_kind after room ∙ f.is))
            | inr b ↦ inr (attested after b room)
          ]
    ]

-- ---- a token

pub record TokenBegins (bytes : List ℕ) : Type 0 where
  pub x : Token
  pub used : ℕ
  pub is : IsTokenAt bytes x used

abbrev pub TokenOr : List ℕ → Type 0
TokenOr bytes = HasReason (token_fault bytes) ⊎ TokenBegins bytes

following : (x : Token) (tag : ℕ) (rest after : List ℕ) (used : ℕ) → IsToken x → spell x ≡ tag ∷ rest → after ≡ rest ++ drop used after → used ≡ length rest → TokenBegins (tag ∷ after)
following x tag rest after used fits e front len = record { x = x; used = suc used; is = record { fits = fits; front = rw e (ap (λ (z : List ℕ). tag ∷ z) front); len = rw e (omega (arith, len)) } }

at_attestation : (after : List ℕ) → AreBytes after → TokenOr (0x00 ∷ after)
unfolding token_fault
at_attestation after all =
    elim (attestation_or after all) [
      | inl f ↦ inl f
      | inr h ↦ inr (following (token.Attestation h.a) 0x00 (kind h.a ++ varbytes (payload h.a)) after h.used h.is.fits refl h.is.front h.is.len)
    ]

at_append : (after : List ℕ) → AreBytes after → TokenOr (0xf0 ∷ after)
unfolding token_fault
at_append after all =
    elim (argument_or after (reading after) (spelled_at after all) all) [
      | inl f ↦ inl f
      | inr h ↦ inr (following (token.Op (op.Append h.argument)) 0xf0 (varbytes h.argument) after h.used h.is.fits refl h.is.front h.is.len)
    ]

at_prepend : (after : List ℕ) → AreBytes after → TokenOr (0xf1 ∷ after)
unfolding token_fault
at_prepend after all =
    elim (argument_or after (reading after) (spelled_at after all) all) [
      | inl f ↦ inl f
      | inr h ↦ inr (following (token.Op (op.Prepend h.argument)) 0xf1 (varbytes h.argument) after h.used h.is.fits refl h.is.front h.is.len)
    ]

pub other_tag : (b : ℕ) (after : List ℕ) → is_tag b ≡ false → HasReason (token_fault (b ∷ after))
unfolding token_fault
other_tag b after other =
    elim (decide (eqb b 0x67)) [
      | inl y ↦ because Keccak (rw y refl)
      | inr n ↦ because UnknownOp (rw (n, other) refl)
    ]

at_tag : (b : ℕ) (after : List ℕ) → AreBytes after → Tag b → TokenOr (b ∷ after)
at_tag b after all (attestation e) = subst (λ (z : ℕ). TokenOr (z ∷ after)) (sym e) (at_attestation after all)
at_tag b after all (append e) = subst (λ (z : ℕ). TokenOr (z ∷ after)) (sym e) (at_append after all)
at_tag b after all (prepend e) = subst (λ (z : ℕ). TokenOr (z ∷ after)) (sym e) (at_prepend after all)
at_tag b after all (alone x fits e) = inr (following x b [] after 0 fits e refl refl)
at_tag b after all (none e) = inl (other_tag b after e)

pub token_or_fault : (bytes : List ℕ) → AreBytes bytes → TokenOr bytes
unfolding token_fault
token_or_fault [] all = inl (because Truncated refl)
token_or_fault (b ∷ after) all = at_tag b after all.1 (tag_of b)
