-- The payload of an attestation has no fault.
use Rattle.std.proofs.Common.{◌≡◌, ℕ, ◌+◌, ◌^◌, ◌<◌, ◌≤◌, Bool, true, false, List, [], ◌∷◌, ◌++◌, length, take, drop, None, Some, refl, sym, ap, ◌∙◌, arith, length-append}
use Rattle.std.specs.Prelude.{IsTrue, bytes_eq}
use Rattle.std.specs.List.{AllByRecursion, list_all}
use Rattle.std.specs.Cmp.Lexicographic.{same_text}
use Rattle.std.proofs.lemmas.Bool.{le-ltb, lt-ltb, and_from, false_from_ne_true}
use Rattle.std.proofs.lemmas.List.{take_all, drop_at, append-nil}
use Rattle.ots_varint.specs.declared.reading.VaruintRead.TheVariants.{Value}
use Rattle.ots_varint.specs.Varuint.{varuint, varbytes}
use Rattle.ots_varint.specs.Reading.{reading}
use Rattle.ots_varint.proofs.ReadBack.{reading_again}
use Rattle.ots_attest.specs.declared.attestation.Attestation.{Attestation}
use Rattle.ots_attest.specs.declared.attestation.Attestation.TheVariants.{Pending, Bitcoin, Litecoin, Unknown}
use Rattle.ots_attest.specs.declared.payload.PayloadError.TheVariants.{BadUri, PayloadRest}
use Rattle.ots_attest.specs.Kind.{pending_kind, bitcoin_kind, litecoin_kind}
use Rattle.ots_attest.specs.Uri.{is_uri_byte, IsUri}
use Rattle.ots_attest.specs.Attestation.{kind, payload, IsAttestation}
use Rattle.ots_attest.specs.PayloadFault.{payload_fault, uri_fault, height_fault}

all_pass : (f : ℕ → Bool) (xs : List ℕ) → AllByRecursion (λ b. IsTrue (f b)) xs → list_all f xs ≡ true
all_pass f [] h = refl
all_pass f (x ∷ xs) h = and_from (f x) (list_all f xs) h.0 (all_pass f xs h.1)

-- a URI after the spelling w of its length
uri_ok : (u w : List ℕ) → IsUri u → uri_fault (Value (length u) (length w)) (w ++ u) ≡ None
uri_ok u w h =
    rw (
      le-ltb 1000 (length u) h.greatest,
      le-ltb (length (w ++ u)) (length w + length u) (omega (arith, length-append w u)),
      drop_at w u (length w) refl,
      take_all (length u) u (omega arith),
      all_pass is_uri_byte u h.each,
      le-ltb (length w + length u) (length (w ++ u)) (omega (arith, length-append w u)),
    ) refl

-- a bad character, after the lines before it
pub uri_bad : (n used : ℕ) (p : List ℕ) → n ≤ 1000 → used + n ≤ length p → list_all is_uri_byte (take n (drop used p)) ≡ false → uri_fault (Value n used) p ≡ Some BadUri
uri_bad n used p few room e = rw (le-ltb 1000 n few, le-ltb (length p) (used + n) room, e) refl

-- bytes left over, after the lines before them
pub uri_rest : (n used : ℕ) (p : List ℕ) → n ≤ 1000 → used + n < length p → list_all is_uri_byte (take n (drop used p)) ≡ true → uri_fault (Value n used) p ≡ Some PayloadRest
uri_rest n used p few room e = rw (le-ltb 1000 n few, le-ltb (length p) (used + n) (omega arith), e, lt-ltb (used + n) (length p) room) refl

height_ok : (n : ℕ) (w : List ℕ) → height_fault (Value n (length w)) w ≡ None
height_ok n w = rw (le-ltb (length w) (length w) (omega arith)) refl

-- another kind
pub no_kind : (k known : List ℕ) → (k ≡ known → ⊥) → bytes_eq k known ≡ false
no_kind k known apart = false_from_ne_true _ (λ e. apart (same_text k known (sym e)))

whole_number : (n : ℕ) → n < 2 ^ 64 → reading (varuint n) ≡ Value n (length (varuint n))
whole_number n small = ap reading (sym (append-nil (varuint n))) ∙ reading_again n [] small

pub payload_ok : (a : Attestation) → IsAttestation a → payload_fault (kind a) (payload a) ≡ None
unfolding payload_fault varbytes
payload_ok (Pending u) h =
    let few = h.greatest in
    rw (reading_again (length u) u (omega arith)) (uri_ok u (varuint (length u)) h)
payload_ok (Bitcoin n) h = rw (whole_number n h) (height_ok n (varuint n))
payload_ok (Litecoin n) h = rw (whole_number n h) (height_ok n (varuint n))
payload_ok (Unknown o) h =
    rw (no_kind o.kind pending_kind o.unknown.0, no_kind o.kind bitcoin_kind o.unknown.1, no_kind o.kind litecoin_kind o.unknown.2) refl
