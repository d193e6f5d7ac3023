-- A digest and its digits.
use Rattle.std.proofs.Common.{◌≡◌, ℕ, Bool, true, false, true≢false, List, length, Some, None, Result, refl, sym, ap, ◌∙◌, arith}
use Rattle.std.specs.Prelude.{Ok, Err, MatchResult, OnOk, bytes_eq, not}
use Rattle.std.specs.Result.{result_ok}
use Rattle.std.specs.Cmp.Lexicographic.{bytes_decides}
use Rattle.hex.specs.Hex.{decode_of, decode_sized, encode_lower, is_hex_digit, lower_digits}
use Rattle.hex.specs.declared.error.FromHexError.{FromHexError}
use Rattle.hex.proofs.HexLemmas.{decode_of-encode_lower, decode_of-ok, decode_of-same, decode_sized-encode_lower, decode_sized-ok, decode_sized-twice, length-encode_with}
use Rattle.ots_inputs.proofs.Lining.{HasNo, none_by_places}
use Rattle.ots_sums.specs.inner.Parts.{IsDigest}

module _ (digits out : List ℕ) (d : Result Unit FromHexError) (decodes : MatchResult (decode_sized digits 32) (λ bytes. (d ≡ Ok tt) × (out ≡ bytes)) (λ e. d ≡ Err e)) where
  module _ (digest : List ℕ) (is : IsDigest digest) (text : digits ≡ encode_lower digest) where
    reads : (d ≡ Ok tt) × (out ≡ digest)
    reads = by (decode_sized digits 32) (ap (λ z. decode_sized z 32) text ∙ decode_sized-encode_lower digest 32 is.0 is.1) decodes
      where
        by : (r : Result (List ℕ) FromHexError) → r ≡ Ok digest → MatchResult r (λ bytes. (d ≡ Ok tt) × (out ≡ bytes)) (λ e. d ≡ Err e) → (d ≡ Ok tt) × (out ≡ digest)
        by (Ok bytes) is h = (h.0, h.1 ∙ (let same : bytes ≡ digest = cc in same))
        by (Err e) is h = absurd cc

    pub not_refused : result_ok d ≡ None → ⊥
    not_refused none = let some = reads.0 in absurd cc

    pub same_text : (shown : List ℕ) → shown ≡ encode_lower out → shown ≡ digits
    same_text shown is = is ∙ ap encode_lower reads.1 ∙ sym text

  -- what was read is a digest
  pub digest_read : (u : Unit) → result_ok d ≡ Some u → IsDigest out
  digest_read u some =
      let whole = by (decode_sized digits 32) refl decodes in
      let twice = decode_sized-ok digits 32 out whole in
      let parts = decode_of-ok digits out (sym (decode_sized-twice digits 32 twice) ∙ whole) in
      let more = parts.2 in
      (omega (arith, twice, more), parts.3)
    where
      by : (r : Result (List ℕ) FromHexError) → decode_sized digits 32 ≡ r → MatchResult r (λ bytes. (d ≡ Ok tt) × (out ≡ bytes)) (λ e. d ≡ Err e) → decode_sized digits 32 ≡ Ok out
      by (Ok bytes) is h = is ∙ ap (λ (z : List ℕ). let r : Result (List ℕ) FromHexError = Ok z in r) (sym h.1)
      by (Err e) is h = absurd cc

pub written_is : (r : Result Unit FromHexError) (u : Unit) (new text : List ℕ) → result_ok r ≡ Some u → OnOk r (new ≡ text) → new ≡ text
written_is (Ok x) u new text some h = h
written_is (Err e) u new text some h = absurd cc

pub another : (text word : List ℕ) (differs : Bool) → differs ≡ not (bytes_eq text word) → differs ≡ true → text ≡ word → ⊥
another text word differs is holds same = let equal : bytes_eq text word ≡ true = (bytes_decides text word).1 same in absurd cc

pub the_same : (text word : List ℕ) (differs : Bool) → differs ≡ not (bytes_eq text word) → differs ≡ false → text ≡ word
the_same text word differs is none = (bytes_decides text word).0 (by (bytes_eq text word) refl)
  where
    by : (b : Bool) → bytes_eq text word ≡ b → b ≡ true
    by true e = refl
    by false e = absurd (let clash : false ≡ true = sym none ∙ is ∙ ap not e in cc)

pub length_digits : (digest : List ℕ) → IsDigest digest → length (encode_lower digest) ≡ 64
length_digits digest is = omega (arith, length-encode_with lower_digits digest, is.0)

-- The digits have no byte that is no digit.
pub none_in_digits : (mark : ℕ) (digest : List ℕ) → is_hex_digit mark ≡ false → IsDigest digest → HasNo mark (encode_lower digest)
none_in_digits mark digest other is =
    let digits = (decode_of-ok (encode_lower digest) digest (decode_of-encode_lower digest is.1)).1 in
    none_by_places mark (encode_lower digest) (λ k less same.
    let digit : is_hex_digit mark ≡ true = sym (ap is_hex_digit same) ∙ digits k 0 less in
    absurd (true≢false (sym digit ∙ other)))

pub same_digest : (first second : List ℕ) → IsDigest first → IsDigest second → encode_lower first ≡ encode_lower second → first ≡ second
same_digest first second f g same =
    decode_of-same (encode_lower second) first second (ap (λ z. decode_of z) (sym same) ∙ decode_of-encode_lower first f.1) (decode_of-encode_lower second g.1)
