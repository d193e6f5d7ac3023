-- Kind and payload determine an attestation, and no spelling begins another.
use Rattle.std.proofs.Common.{◌≡◌, ℕ, List, [], ◌∷◌, ◌++◌, length, refl, sym, ap, arith, ◌∙◌, append_assoc}
use mathlib.Core.HLevel.{is_prop→PathP}
use Rattle.ots_varint.specs.Varuint.{varuint, varbytes}
use Rattle.ots_varint.proofs.OneNumber.{varuint-apart, varbytes-apart, parts_equal}
use Rattle.ots_attest.specs.Kind.{IsUnknown}
use Rattle.ots_attest.specs.declared.other.OtherParts.{OtherParts}
use Rattle.ots_attest.specs.declared.attestation.Attestation.{Attestation}
use Rattle.ots_attest.specs.declared.attestation.Attestation.TheVariants.{Pending, Bitcoin, Litecoin, Unknown}
use Rattle.ots_attest.specs.Attestation.{kind, payload, spell, IsAttestation}

-- kinds have eight bytes
pub kind-len : (a : Attestation) → IsAttestation a → length (kind a) ≡ 8
kind-len (Pending u) h = refl
kind-len (Bitcoin n) h = refl
kind-len (Litecoin n) h = refl
kind-len (Unknown o) h = h.0

-- the fact that a kind is unknown has one proof
pub same_other : (o p : OtherParts) → o.kind ≡ p.kind → o.payload ≡ p.payload → o ≡ p
same_other o p k q = λ i. record { kind = k i; payload = q i; unknown = is_prop→PathP (λ j. IsUnknown (k j)) (λ j. hlevel) o.unknown p.unknown i }

-- the first bytes of equal lists
pub heads : {a b : ℕ} {x y : List ℕ} → a ∷ x ≡ b ∷ y → a ≡ b
heads e = cc

-- Two attestations of one kind are of one variant, in which what they hold decides.
pub same_by : (held : Attestation → List ℕ) → ((u v : List ℕ) → held (Pending u) ≡ held (Pending v) → u ≡ v) → ((m n : ℕ) → held (Bitcoin m) ≡ held (Bitcoin n) → m ≡ n)
    → ((m n : ℕ) → held (Litecoin m) ≡ held (Litecoin n) → m ≡ n) → ((o q : OtherParts) → held (Unknown o) ≡ held (Unknown q) → o.payload ≡ q.payload)
    → (a b : Attestation) → kind a ≡ kind b → held a ≡ held b → a ≡ b
same_by held uri bitcoin litecoin other (Pending u) (Pending v) k p = ap (λ (z : List ℕ). Pending z) (uri u v p)
same_by held uri bitcoin litecoin other (Bitcoin m) (Bitcoin n) k p = ap (λ (z : ℕ). Bitcoin z) (bitcoin m n p)
same_by held uri bitcoin litecoin other (Litecoin m) (Litecoin n) k p = ap (λ (z : ℕ). Litecoin z) (litecoin m n p)
same_by held uri bitcoin litecoin other (Unknown o) (Unknown q) k p = ap (λ (z : OtherParts). Unknown z) (same_other o q k (other o q p))
same_by held uri bitcoin litecoin other (Unknown o) (Pending v) k p = absurd (o.unknown.0 k)
same_by held uri bitcoin litecoin other (Unknown o) (Bitcoin n) k p = absurd (o.unknown.1 k)
same_by held uri bitcoin litecoin other (Unknown o) (Litecoin n) k p = absurd (o.unknown.2 k)
same_by held uri bitcoin litecoin other (Pending u) (Unknown q) k p = absurd (q.unknown.0 (sym k))
same_by held uri bitcoin litecoin other (Bitcoin m) (Unknown q) k p = absurd (q.unknown.1 (sym k))
same_by held uri bitcoin litecoin other (Litecoin m) (Unknown q) k p = absurd (q.unknown.2 (sym k))
same_by held uri bitcoin litecoin other a b k p = absurd (let h = heads k in omega arith)

-- a number's spelling determines it
varuint-injective : (m n : ℕ) → varuint m ≡ varuint n → m ≡ n
varuint-injective m n e = varuint-apart m n [] [] (ap (λ (z : List ℕ). z ++ []) e)

varbytes-injective : (a b : List ℕ) → varbytes a ≡ varbytes b → a ≡ b
varbytes-injective a b e = (varbytes-apart a b [] [] (ap (λ (z : List ℕ). z ++ []) e)).0

-- kind and payload determine the attestation
pub same : (a b : Attestation) → kind a ≡ kind b → payload a ≡ payload b → a ≡ b
same = same_by payload varbytes-injective varuint-injective varuint-injective (λ o q p. p)

pub spell-apart : (a b : Attestation) (x y : List ℕ) → IsAttestation a → IsAttestation b → spell a ++ x ≡ spell b ++ y → (a ≡ b) × (x ≡ y)
spell-apart a b x y fa fb e =
    let rest : (kind a ++ varbytes (payload a)) ++ x ≡ (kind b ++ varbytes (payload b)) ++ y = cc in
    let cut = parts_equal (kind a) (kind b) (varbytes (payload a) ++ x) (varbytes (payload b) ++ y) (kind-len a fa ∙ sym (kind-len b fb)) (simp append_assoc at rest) in
    let after = varbytes-apart (payload a) (payload b) x y cut.1 in
    (same a b cut.0 after.0, after.1)
