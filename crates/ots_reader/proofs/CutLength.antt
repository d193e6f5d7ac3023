-- How many bytes a token has, and how many of a token that is cut have come.
use Rattle.std.proofs.Common.{◌≡◌, ℕ, zero, suc, ◌+◌, ◌-◌, ◌<◌, ◌≤◌, Bool, true, false, ltb, eqb, List, [], ◌∷◌, ◌++◌, length, take, drop, Option, Some, None, refl, sym, ap, subst, ◌∙◌, inl, inr, arith, length-drop}
use Rattle.std.specs.Prelude.{◌⊎◌, ◌&&◌, if◌then◌else◌, option_and_then}
use Rattle.std.proofs.lemmas.Bool.{cases_lt}
use Rattle.std.proofs.lemmas.Bool.Decides.{nat_tests}
use Rattle.ots_base.specs.Table.{line, first_line}
use Rattle.ots_varint.specs.declared.reading.VaruintRead.{VaruintRead}
use Rattle.ots_varint.specs.declared.reading.VaruintRead.TheVariants as read
use Rattle.ots_varint.specs.Varuint.{varbytes}
use Rattle.ots_varint.specs.Reading.{reading, reading_from, above}
use Rattle.ots_varint.proofs.OneNumber.{varuint_at_most_two}
use Rattle.ots_varint.proofs.ReadBack.{above_value}
use Rattle.ots_varint.proofs.Written.{varbytes_length}
use Rattle.ots_ops.specs.Arg.{IsArg}
use Rattle.ots_ops.specs.declared.op.Op.TheVariants as op
use Rattle.ots_attest.specs.declared.payload.PayloadError.{PayloadError}
use Rattle.ots_attest.specs.declared.payload.PayloadError.TheVariants as payload_error
use Rattle.ots_attest.specs.Attestation.{payload}
use Rattle.ots_attest.specs.PayloadFault.{payload_fault}
use Rattle.ots_attest.proofs.Lengths.{payload_few, spelled_length}
use Rattle.ots_tree.specs.declared.token.Token.{Token}
use Rattle.ots_tree.specs.declared.token.Token.TheVariants as token
use Rattle.ots_tree.specs.Wire.{spell, IsToken}
use Rattle.ots_reader.specs.declared.fault.Reason.{Reason}
use Rattle.ots_reader.specs.declared.fault.Reason.TheVariants.{Truncated, ArgEmpty, ArgTooLong, PayloadTooLong}
use Rattle.ots_reader.specs.TokenFault.{token_fault, is_tag, as_reason, argument_fault, body_fault, attestation_fault}
use Rattle.ots_reader.specs.Cut.{IsCut}
use Rattle.ots_reader.proofs.NoTokenFault.{token_ok}
use Rattle.ots_reader.proofs.Tags.{Tag, attestation, append, prepend, alone, none, tag_of, decide}
use Rattle.ots_reader.proofs.TokenOrFault.{whole_kind}

-- ---- a whole token

argument_size : (x : List ℕ) → IsArg x → length (varbytes x) ≤ 4098
argument_size x h =
    let few = h.greatest in
    omega (arith, varbytes_length x, varuint_at_most_two (length x) (omega arith))

pub token_size : (x : Token) → IsToken x → length (spell x) ≤ 8203
token_size token.Fork h = omega arith
token_size (token.Op op.Sha1) h = omega arith
token_size (token.Op op.Ripemd160) h = omega arith
token_size (token.Op op.Sha256) h = omega arith
token_size (token.Op op.Reverse) h = omega arith
token_size (token.Op op.Hexlify) h = omega arith
token_size (token.Op (op.Append x)) h = omega (arith, argument_size x h)
token_size (token.Op (op.Prepend x)) h = omega (arith, argument_size x h)
token_size (token.Attestation a) h =
    let few = payload_few a h in
    omega (arith, spelled_length a h, varuint_at_most_two (length (payload a)) (omega arith))

-- ---- a number that is cut

above_short : (low : ℕ) (r : VaruintRead) → above low r ≡ read.Short → r ≡ read.Short
above_short low (read.Value n used) e = absurd cc
above_short low read.Short e = refl
above_short low read.NonMinimal e = absurd cc
above_short low read.TooLarge e = absurd cc

-- a byte with which a number goes on
record GoesOn (a c : Bool) (r : VaruintRead) : Type 0 where
  over : a ≡ false
  last : c ≡ false
  rest : r ≡ read.Short

lines_short : (a b c : Bool) (v low : ℕ) (r : VaruintRead)
    → (if a then read.TooLarge else if b then read.NonMinimal else if c then read.Value v 1 else above low r) ≡ read.Short → GoesOn a c r
lines_short true b c v low r e = absurd cc
lines_short false true c v low r e = absurd cc
lines_short false false true v low r e = absurd cc
lines_short false false false v low r e = record { over = refl; last = refl; rest = above_short low r e }

not_at_nine : (b : ℕ) → (eqb 9 9 && ltb 1 b) ≡ false → ltb b 128 ≡ false → ⊥
not_at_nine b over last = grind (arith, nat_tests)

short_from : (k i : ℕ) (bytes : List ℕ) → i + k ≡ 9 → reading_from i bytes ≡ read.Short → length bytes ≤ k
short_from k i [] e s = omega arith
short_from zero i (b ∷ bs) e s =
    let nine : i ≡ 9 = omega arith in
    let g = lines_short (eqb i 9 && ltb 1 b) _ (ltb b 128) b _ (reading_from (suc i) bs) s in
    absurd (not_at_nine b (subst (λ (z : ℕ). (eqb z 9 && ltb 1 b) ≡ false) nine g.over) g.last)
short_from (suc k) i (b ∷ bs) e s =
    let g = lines_short (eqb i 9 && ltb 1 b) _ (ltb b 128) b _ (reading_from (suc i) bs) s in
    omega (arith, short_from k (suc i) bs (omega arith) g.rest)

number_cut : (bytes : List ℕ) → reading bytes ≡ read.Short → length bytes ≤ 9
unfolding reading
number_cut bytes e = short_from 9 0 bytes refl e

-- ---- a number that is whole

lines_value : (a z c : Bool) (b low : ℕ) (r : VaruintRead) (n used : ℕ)
    → (if a then read.TooLarge else if z then read.NonMinimal else if c then read.Value b 1 else above low r) ≡ read.Value n used → ((z ≡ false) × (n ≡ b) × (used ≡ 1)) ⊎ (above low r ≡ read.Value n used)
lines_value true z c b low r n used e = absurd cc
lines_value false true c b low r n used e = absurd cc
lines_value false false true b low r n used e = inl (refl, cc, cc)
lines_value false false false b low r n used e = inr e

-- the shortest form: after the first byte a number isn't 0, and of two bytes or more it is large
record Grows (n used : ℕ) : Type 0 where
  least : 1 ≤ n
  more : 2 ≤ used → 128 ≤ n

not_zero : (i b : ℕ) → (ltb 0 (suc i) && eqb b 0) ≡ false → 1 ≤ b
not_zero i b e = grind (arith, nat_tests)

grows_from : (i : ℕ) (bytes : List ℕ) (n used : ℕ) → reading_from (suc i) bytes ≡ read.Value n used → Grows n used
grows_from i [] n used e = absurd cc
grows_from i (b ∷ bs) n used e =
    elim (lines_value (eqb (suc i) 9 && ltb 1 b) (ltb 0 (suc i) && eqb b 0) (ltb b 128) b (b - 128) (reading_from (suc (suc i)) bs) n used e) [
      | inl l ↦ let some = not_zero i b l.0 in record { least = omega (arith, l.1); more = λ two. absurd (omega (arith, l.2)) }
      | inr h ↦
          let v = above_value (b - 128) (reading_from (suc (suc i)) bs) n used h in
          let rest = (grows_from (suc i) bs v.0 v.1 v.2).least in
          record { least = omega (arith, v.3); more = λ two. omega (arith, v.3) }
    ]

two_at_most : (bytes : List ℕ) (n used : ℕ) → reading_from 0 bytes ≡ read.Value n used → n < 16384 → used ≤ 2
two_at_most [] n used e few = absurd cc
two_at_most (b ∷ bs) n used e few =
    elim (lines_value (eqb 0 9 && ltb 1 b) (ltb 0 0 && eqb b 0) (ltb b 128) b (b - 128) (reading_from 1 bs) n used e) [
      | inl l ↦ omega (arith, l.2)
      | inr h ↦
          let v = above_value (b - 128) (reading_from 1 bs) n used h in
          elim (cases_lt v.1 2) [
            | inl lt ↦ omega (arith, v.4)
            | inr le ↦ absurd (omega (arith, v.3, (grows_from 0 bs v.0 v.1 v.2).more le))
          ]
    ]

number_size : (bytes : List ℕ) (n used : ℕ) → reading bytes ≡ read.Value n used → n < 16384 → used ≤ 2
unfolding reading
number_size bytes n used e few = two_at_most bytes n used e few

-- ---- bytes after their length that are cut

abbrev Cut : Option Reason → Type 0
Cut known = known ≡ Some Truncated

payload_whole : (p : Option PayloadError) → Cut (option_and_then as_reason p) → ⊥
payload_whole None e = cc
payload_whole (Some payload_error.BadUri) e = cc
payload_whole (Some payload_error.PayloadRest) e = cc
payload_whole (Some payload_error.PayloadShort) e = cc
payload_whole (Some payload_error.PayloadVaruint) e = cc
payload_whole (Some payload_error.OutOfMemory) e = cc

argument_lines : (a b c : Bool) → Cut (first_line (line a ArgEmpty ∷ line b ArgTooLong ∷ line c Truncated ∷ [])) → (b ≡ false) × (c ≡ true)
argument_lines true b c e = absurd cc
argument_lines false true c e = absurd cc
argument_lines false false true e = (refl, refl)
argument_lines false false false e = absurd cc

body_lines : (a b : Bool) (p : Option PayloadError) → Cut (first_line (line a PayloadTooLong ∷ line b Truncated ∷ option_and_then as_reason p ∷ [])) → (a ≡ false) × (b ≡ true)
body_lines true b p e = absurd cc
body_lines false true p e = (refl, refl)
body_lines false false None e = absurd cc
body_lines false false (Some payload_error.BadUri) e = absurd cc
body_lines false false (Some payload_error.PayloadRest) e = absurd cc
body_lines false false (Some payload_error.PayloadShort) e = absurd cc
body_lines false false (Some payload_error.PayloadVaruint) e = absurd cc
body_lines false false (Some payload_error.OutOfMemory) e = absurd cc

after_cut : (most n used : ℕ) (bytes : List ℕ) → most ≤ 8192 → ltb most n ≡ false → ltb (length bytes) (used + n) ≡ true → reading bytes ≡ read.Value n used → length bytes ≤ 1 + most
after_cut most n used bytes few long cut s =
    let n_few : n ≤ most = grind (arith, nat_tests) in
    let short : length bytes < used + n = grind (arith, nat_tests) in
    omega (arith, number_size bytes n used s (omega arith))

argument_cut : (bytes : List ℕ) (r : VaruintRead) → reading bytes ≡ r → Cut (argument_fault r bytes) → length bytes ≤ 4097
argument_cut bytes read.Short is e = omega (arith, number_cut bytes is)
argument_cut bytes read.NonMinimal is e = absurd cc
argument_cut bytes read.TooLarge is e = absurd cc
argument_cut bytes (read.Value n used) is e =
    let l = argument_lines (eqb n 0) (ltb 4096 n) (ltb (length bytes) (used + n)) e in
    after_cut 4096 n used bytes (omega arith) l.0 l.1 is

body_cut : (k bytes : List ℕ) (r : VaruintRead) → reading bytes ≡ r → Cut (body_fault k r bytes) → length bytes ≤ 8193
body_cut k bytes read.Short is e = omega (arith, number_cut bytes is)
body_cut k bytes read.NonMinimal is e = absurd cc
body_cut k bytes read.TooLarge is e = absurd cc
body_cut k bytes (read.Value n used) is e =
    let l = body_lines (ltb 8192 n) (ltb (length bytes) (used + n)) (payload_fault k (take n (drop used bytes))) e in
    after_cut 8192 n used bytes (omega arith) l.0 l.1 is

attestation_cut : (after : List ℕ) → Cut (attestation_fault after) → length after ≤ 8201
attestation_cut after e =
    elim (cases_lt (length after) 8) [
      | inl short ↦ omega arith
      | inr room ↦
          let body = drop 8 after in
          let cut = body_cut (take 8 after) body (reading body) refl (sym (whole_kind after room) ∙ e) in
          omega (arith, cut, length-drop 8 after)
    ]

-- ---- a token that is cut

abbrev AtTag : ℕ → List ℕ → Type 0
AtTag b after = IsCut (b ∷ after) → length (b ∷ after) ≤ 8202

at_attestation : (after : List ℕ) → AtTag 0x00 after
unfolding token_fault
at_attestation after e = omega (arith, attestation_cut after e)

at_append : (after : List ℕ) → AtTag 0xf0 after
unfolding token_fault
at_append after e = omega (arith, argument_cut after (reading after) refl e)

at_prepend : (after : List ℕ) → AtTag 0xf1 after
unfolding token_fault
at_prepend after e = omega (arith, argument_cut after (reading after) refl e)

not_other : (b : ℕ) (after : List ℕ) → is_tag b ≡ false → IsCut (b ∷ after) → ⊥
unfolding token_fault
not_other b after other e =
    elim (decide (eqb b 0x67)) [
      | inl y ↦ let f = rw y at e in cc
      | inr n ↦ let f = rw (n, other) at e in cc
    ]

at_tag : (b : ℕ) (after : List ℕ) → Tag b → AtTag b after
at_tag b after (attestation e) = subst (λ (z : ℕ). AtTag z after) (sym e) (at_attestation after)
at_tag b after (append e) = subst (λ (z : ℕ). AtTag z after) (sym e) (at_append after)
at_tag b after (prepend e) = subst (λ (z : ℕ). AtTag z after) (sym e) (at_prepend after)
at_tag b after (alone y fits e) = λ cut. let clash : None ≡ Some Truncated = sym (token_ok y after fits) ∙ ap (λ (z : List ℕ). token_fault (z ++ after)) e ∙ cut in absurd cc
at_tag b after (none e) = λ cut. absurd (not_other b after e cut)

pub cut_size : (bytes : List ℕ) → IsCut bytes → length bytes ≤ 8202
cut_size [] e = omega arith
cut_size (b ∷ after) e = at_tag b after (tag_of b) e
