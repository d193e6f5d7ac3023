-- A payload of a kind is that of an attestation, or has a fault.
use Rattle.std.proofs.Common.{◌≡◌, ℕ, ◌+◌, ◌<◌, ◌≤◌, ◌^◌, Bool, true, false, ltb, List, [], ◌∷◌, ◌++◌, length, take, drop, Option, Some, None, refl, sym, ap, ◌∙◌, inl, inr}
use Rattle.std.specs.Prelude.{◌⊎◌, ◌≢◌, bytes_eq, not, Result, Ok, Err, IfOk, IfErr}
use Rattle.std.specs.List.{AllByRecursion, list_all}
use Rattle.std.specs.Cmp.Lexicographic.{same_text}
use Rattle.std.proofs.lemmas.Bool.{ltb-false, false≢true}
use Rattle.std.proofs.lemmas.List.{drop_all, append-nil}
use Rattle.ots_base.specs.Table.{line, first_line}
use Rattle.ots_varint.specs.declared.reading.VaruintRead.{VaruintRead}
use Rattle.ots_varint.specs.declared.reading.VaruintRead.TheVariants.{Value, Short, NonMinimal, TooLarge}
use Rattle.ots_varint.specs.Varuint.{varuint, varbytes}
use Rattle.ots_varint.specs.Reading.{reading, IsSpelledAt}
use Rattle.ots_varint.proofs.ReadBack.{reading_is}
use Rattle.ots_attest.specs.Kind.{pending_kind, bitcoin_kind, litecoin_kind}
use Rattle.ots_attest.specs.Uri.{is_uri_byte, IsUri}
use Rattle.ots_attest.specs.declared.attestation.Attestation.{Attestation}
use Rattle.ots_attest.specs.declared.attestation.Attestation.TheVariants.{Pending, Bitcoin, Litecoin, Unknown}
use Rattle.ots_attest.specs.declared.payload.PayloadError.{PayloadError}
use Rattle.ots_attest.specs.declared.payload.PayloadError.TheVariants.{BadUri, PayloadRest, PayloadShort, PayloadVaruint, OutOfMemory}
use Rattle.ots_attest.specs.Attestation.{kind, payload}
use Rattle.ots_attest.specs.PayloadFault.{payload_fault, uri_fault, height_fault, IsOf}
use Rattle.ots_attest.specs.PayloadRead.{IsFault}
use Rattle.ots_attest.proofs.OneAttestation.{same}
use Rattle.ots_attest.proofs.Payloads.{payload_ok}
use Rattle.ots_attest.proofs.UriBytes.{uri_of_text, whole}

-- a fault, which is not want of memory
abbrev pub Faulty : Option PayloadError → Type 0
Faulty known = (e : PayloadError) × (known ≡ Some e) × (e ≢ OutOfMemory)

-- ---- a URI

uri_lines_or : (a b c d : Bool) → Faulty (first_line (line a BadUri ∷ line b PayloadShort ∷ line (not c) BadUri ∷ line d PayloadRest ∷ [])) ⊎ ((a ≡ false) × (b ≡ false) × (c ≡ true) × (d ≡ false))
uri_lines_or true b c d = inl (BadUri, refl, λ e. cc)
uri_lines_or false true c d = inl (PayloadShort, refl, λ e. cc)
uri_lines_or false false false d = inl (BadUri, refl, λ e. cc)
uri_lines_or false false true true = inl (PayloadRest, refl, λ e. cc)
uri_lines_or false false true false = inr (refl, refl, refl, refl)

record IsUriOf (p : List ℕ) : Type 0 where
  uri : List ℕ
  fits : IsUri uri
  is : varbytes uri ≡ p

uri_or : (p : List ℕ) (r : VaruintRead) → ((n used : ℕ) → r ≡ Value n used → IsSpelledAt p n used) → Faulty (uri_fault r p) ⊎ IsUriOf p
uri_or p Short at = inl (PayloadShort, refl, λ e. cc)
uri_or p NonMinimal at = inl (PayloadVaruint, refl, λ e. cc)
uri_or p TooLarge at = inl (PayloadVaruint, refl, λ e. cc)
uri_or p (Value n used) at =
    let text = take n (drop used p) in
    elim (uri_lines_or (ltb 1000 n) (ltb (length p) (used + n)) (list_all is_uri_byte text) (ltb (used + n) (length p))) [
      | inl f ↦ inl f
      | inr h ↦ inr (record {
        uri = text;
        fits = uri_of_text n used p (ltb-false (length p) (used + n) h.1) (ltb-false 1000 n h.0) h.2;
        is = whole n used p (at n used refl) (ltb-false (length p) (used + n) h.1) (ltb-false (used + n) (length p) h.3);
      })
    ]

-- ---- a height

rest_or : (d : Bool) → Faulty (first_line (line d PayloadRest ∷ [])) ⊎ (d ≡ false)
rest_or true = inl (PayloadRest, refl, λ e. cc)
rest_or false = inr refl

-- the number that is the whole payload
pub whole_height : (n used : ℕ) (p : List ℕ) → IsSpelledAt p n used → length p ≤ used → varuint n ≡ p
whole_height n used p at end = sym (at.prefix ∙ ap (λ (z : List ℕ). varuint n ++ z) (drop_all used p end) ∙ append-nil (varuint n))

record IsHeightOf (p : List ℕ) : Type 0 where
  height : ℕ
  fits : height < 2 ^ 64
  is : varuint height ≡ p

height_or : (p : List ℕ) (r : VaruintRead) → ((n used : ℕ) → r ≡ Value n used → IsSpelledAt p n used) → Faulty (height_fault r p) ⊎ IsHeightOf p
height_or p Short at = inl (PayloadShort, refl, λ e. cc)
height_or p NonMinimal at = inl (PayloadVaruint, refl, λ e. cc)
height_or p TooLarge at = inl (PayloadVaruint, refl, λ e. cc)
height_or p (Value n used) at =
    let h = at n used refl in
    elim (rest_or (ltb used (length p))) [
      | inl f ↦ inl f
      | inr end ↦ inr (record { height = n; fits = h.small; is = whole_height n used p h (ltb-false used (length p) end) })
    ]

-- ---- the kind

decide : (x : Bool) → (x ≡ true) ⊎ (x ≡ false)
decide true = inl refl
decide false = inr refl

pub not_kind : (k known : List ℕ) → bytes_eq known known ≡ true → bytes_eq k known ≡ false → k ≡ known → ⊥
not_kind k known itself e is = false≢true (sym e ∙ ap (λ (z : List ℕ). bytes_eq z known) is ∙ itself)

pub payload_or_fault : (k p : List ℕ) → length k ≡ 8 → AllByRecursion (λ b. b < 256) k → AllByRecursion (λ b. b < 256) p → length p ≤ 8192
    → Faulty (payload_fault k p) ⊎ ((a : Attestation) × IsOf k p a)
unfolding payload_fault
payload_or_fault k p len kind-bytes bytes few =
    let spelled : (n used : ℕ) → reading p ≡ Value n used → IsSpelledAt p n used = λ n used e. reading_is p n used bytes e in
    elim (decide (bytes_eq k pending_kind)) [
      | inl is-pending ↦ elim (uri_or p (reading p) spelled) [
        | inl f ↦ inl (rw is-pending f)
        | inr h ↦ inr (Pending h.uri, record { within_limits = h.fits; kind = sym (same_text k pending_kind (sym is-pending)); payload = h.is })
      ]
      | inr no-pending ↦ elim (decide (bytes_eq k bitcoin_kind)) [
        | inl is-bitcoin ↦ elim (height_or p (reading p) spelled) [
          | inl f ↦ inl (rw (no-pending, is-bitcoin) f)
          | inr h ↦ inr (Bitcoin h.height, record { within_limits = h.fits; kind = sym (same_text k bitcoin_kind (sym is-bitcoin)); payload = h.is })
        ]
        | inr no-bitcoin ↦ elim (decide (bytes_eq k litecoin_kind)) [
          | inl is-litecoin ↦ elim (height_or p (reading p) spelled) [
            | inl f ↦ inl (rw (no-pending, no-bitcoin, is-litecoin) f)
            | inr h ↦ inr (Litecoin h.height, record { within_limits = h.fits; kind = sym (same_text k litecoin_kind (sym is-litecoin)); payload = h.is })
          ]
          | inr no-litecoin ↦ inr (
            Unknown (record { kind = k; payload = p; unknown = (not_kind k pending_kind refl no-pending, not_kind k bitcoin_kind refl no-bitcoin, not_kind k litecoin_kind refl no-litecoin) }),
            record { within_limits = (len, kind-bytes, record { greatest = few; are_bytes = bytes }); kind = refl; payload = refl },
          )
        ]
      ]
    ]

-- ---- what reading answers, the other way

pub accepted : (k p : List ℕ) (r : Result Attestation PayloadError) → IfOk r (IsOf k p) → IfErr r (IsFault (payload_fault k p)) → (a : Attestation) → IsOf k p a → (r ≡ Err OutOfMemory → ⊥) → r ≡ Ok a
accepted k p (Ok b) ok err a h short = ap (λ (z : Attestation). Ok z) (same b a (ok.kind ∙ sym h.kind) (ok.payload ∙ sym h.payload))
accepted k p (Err e) ok err a h short =
    let none = payload_ok a h.within_limits in
    let some = err (λ is. short (ap (λ (z : PayloadError). Err z) is)) in
    let at : payload_fault (kind a) (payload a) ≡ payload_fault k p = rw (h.kind, h.payload) refl in
    absurd (let clash : None ≡ Some e = sym none ∙ at ∙ some in cc)

pub refused : (k p : List ℕ) (r : Result Attestation PayloadError) → IfOk r (IsOf k p) → IfErr r (IsFault (payload_fault k p)) → (e : PayloadError) → payload_fault k p ≡ Some e → (r ≡ Err OutOfMemory → ⊥) → r ≡ Err e
refused k p (Ok b) ok err e is short =
    let none = payload_ok b ok.within_limits in
    let at : payload_fault (kind b) (payload b) ≡ payload_fault k p = rw (ok.kind, ok.payload) refl in
    absurd (let clash : None ≡ Some e = sym none ∙ at ∙ is in cc)
refused k p (Err f) ok err e is short =
    let some = err (λ same. short (ap (λ (z : PayloadError). Err z) same)) in
    let one : Some f ≡ Some e = sym some ∙ is in
    let same : f ≡ e = cc in
    ap (λ (z : PayloadError). Err z) same
