-- The order of attestations.
use Rattle.std.proofs.Common.{◌≡◌, ℕ, List, [], ◌∷◌, ◌++◌, length, refl, sym, ap, ◌∙◌, arith}
use Rattle.std.specs.Prelude.{◌≢◌}
use Rattle.std.specs.Ordering.{nat_cmp, ordering_then}
use Rattle.std.specs.Cmp.{nat_cmp_is}
use Rattle.std.specs.declared.cmp.Ordering.{Ordering}
use Rattle.std.specs.declared.cmp.Ordering.TheVariants.{Less, Equal, Greater}
use Rattle.std.specs.Cmp.Lexicographic.{slice_cmp, same_text}
use Rattle.std.specs.Ordering.{is_eq}
use Rattle.std.proofs.lemmas.Map.Text.{is_eq-slice_cmp}
use Rattle.ots_varint.proofs.OneNumber.{parts_equal}
use Rattle.ots_attest.specs.Kind.{pending_kind, bitcoin_kind, litecoin_kind}
use Rattle.ots_attest.specs.declared.other.OtherParts.{OtherParts}
use Rattle.ots_attest.specs.declared.attestation.Attestation.{Attestation}
use Rattle.ots_attest.specs.declared.attestation.Attestation.TheVariants.{Pending, Bitcoin, Litecoin, Unknown}
use Rattle.ots_attest.specs.Attestation.{kind, held, key, attestation_cmp, IsAttestation}
use Rattle.ots_attest.proofs.OneAttestation.{kind-len, same_by, heads}

then_assoc : (o p q : Ordering) → ordering_then (ordering_then o p) q ≡ ordering_then o (ordering_then p q)
then_assoc Less p q = refl
then_assoc Equal p q = refl
then_assoc Greater p q = refl

-- lists that begin with as many elements
pub slice_cmp-append : (a b x y : List ℕ) → length a ≡ length b → slice_cmp nat_cmp (a ++ x) (b ++ y) ≡ ordering_then (slice_cmp nat_cmp a b) (slice_cmp nat_cmp x y)
slice_cmp-append [] [] x y e = refl
slice_cmp-append [] (q ∷ qs) x y e = absurd (omega arith)
slice_cmp-append (p ∷ ps) [] x y e = absurd (omega arith)
slice_cmp-append (p ∷ ps) (q ∷ qs) x y e =
    ap (ordering_then (nat_cmp p q)) (slice_cmp-append ps qs x y (omega arith))
    ∙ sym (then_assoc (nat_cmp p q) (slice_cmp nat_cmp ps qs) (slice_cmp nat_cmp x y))

pub one_key : (a b : Attestation) → IsAttestation a → IsAttestation b → key a ≡ key b → a ≡ b
one_key a b ha hb e =
    let cut = parts_equal (kind a) (kind b) (held a) (held b) (kind-len a ha ∙ sym (kind-len b hb)) e in
    same_by held (λ u v h. h) (λ m n h. heads h) (λ m n h. heads h) (λ o q h. h) a b cut.0 cut.1

-- kinds that compare as equal are equal
pub equal_kinds : (k l : List ℕ) → Equal ≡ slice_cmp nat_cmp k l → k ≡ l
equal_kinds k l e = same_text k l (ap is_eq e ∙ is_eq-slice_cmp k l)

-- of one kind, what they hold decides
pub by_held : (a b : Attestation) → length (kind a) ≡ length (kind b) → Equal ≡ slice_cmp nat_cmp (kind a) (kind b) → slice_cmp nat_cmp (held a) (held b) ≡ attestation_cmp a b
by_held a b len e = sym (slice_cmp-append (kind a) (kind b) (held a) (held b) len ∙ ap (λ (o : Ordering). ordering_then o (slice_cmp nat_cmp (held a) (held b))) (sym e))

unless_equal : (o p : Ordering) → (o ≡ Equal → ⊥) → o ≡ ordering_then o p
unless_equal Less p h = refl
unless_equal Equal p h = absurd (h refl)
unless_equal Greater p h = refl

-- else the kinds do
pub by_kind : (a b : Attestation) → length (kind a) ≡ length (kind b) → (slice_cmp nat_cmp (kind a) (kind b) ≡ Equal → ⊥) → slice_cmp nat_cmp (kind a) (kind b) ≡ attestation_cmp a b
by_kind a b len h = unless_equal (slice_cmp nat_cmp (kind a) (kind b)) (slice_cmp nat_cmp (held a) (held b)) h ∙ sym (slice_cmp-append (kind a) (kind b) (held a) (held b) len)

-- ---- the order, kind by kind

one_number : (n : ℕ) → nat_cmp n n ≡ Equal
one_number n = sym (nat_cmp_is n n Equal refl)

-- the same list before both decides nothing
same_prefix : (k x y : List ℕ) → slice_cmp nat_cmp (k ++ x) (k ++ y) ≡ slice_cmp nat_cmp x y
same_prefix [] x y = refl
same_prefix (n ∷ k) x y = rw (one_number n) (same_prefix k x y)

-- one number each
numbers : (m n : ℕ) → slice_cmp nat_cmp (m ∷ []) (n ∷ []) ≡ nat_cmp m n
numbers m n = last (nat_cmp m n)
  where
    last : (o : Ordering) → ordering_then o Equal ≡ o
    last Less = refl
    last Equal = refl
    last Greater = refl

pub two_kinds : (a b : Attestation) → IsAttestation a → IsAttestation b → kind a ≢ kind b → attestation_cmp a b ≡ slice_cmp nat_cmp (kind a) (kind b)
two_kinds a b ha hb apart =
    sym (by_kind a b (kind-len a ha ∙ sym (kind-len b hb)) (λ e. apart (equal_kinds (kind a) (kind b) (sym e))))

pub two_uris : (u v : List ℕ) → attestation_cmp (Pending u) (Pending v) ≡ slice_cmp nat_cmp u v
two_uris u v = same_prefix pending_kind u v

pub two_bitcoin_heights : (m n : ℕ) → attestation_cmp (Bitcoin m) (Bitcoin n) ≡ nat_cmp m n
two_bitcoin_heights m n = same_prefix bitcoin_kind (m ∷ []) (n ∷ []) ∙ numbers m n

pub two_litecoin_heights : (m n : ℕ) → attestation_cmp (Litecoin m) (Litecoin n) ≡ nat_cmp m n
two_litecoin_heights m n = same_prefix litecoin_kind (m ∷ []) (n ∷ []) ∙ numbers m n

pub two_payloads : (o p : OtherParts) → o.kind ≡ p.kind → attestation_cmp (Unknown o) (Unknown p) ≡ slice_cmp nat_cmp o.payload p.payload
two_payloads o p same = rw same (same_prefix p.kind o.payload p.payload)
