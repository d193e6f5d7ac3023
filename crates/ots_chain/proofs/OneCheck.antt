-- A table has one check's answer.
use Rattle.std.proofs.Common.{◌≡◌, ℕ, ◌+◌, ◌-◌, ◌<◌, ◌≤◌, List, Option, Some, None, inl, inr, refl, sym, subst, ap, ◌∙◌, arith, lt_of_not-le}
use Rattle.std.proofs.lemmas.Option.{same_Some}
use Rattle.ots_headers.specs.declared.header.Header.{Header}
use Rattle.ots_headers.specs.HeaderTable.{Table, header_at}
use Rattle.ots_chain.specs.declared.checking.ChainFault.{ChainFault}
use Rattle.ots_chain.specs.declared.checking.ChainFault.TheVariants.{BadLink, BadBits, AboveTarget}
use Rattle.ots_chain.specs.declared.checking.ChainCheck.{ChainCheck}
use Rattle.ots_chain.specs.declared.checking.ChainCheck.TheVariants.{Whole, Broken}
use Rattle.ots_chain.specs.Chain.{AreGood, HasFaultAt, FaultOf, IsLinked, IsCheckOf, IsWhole, hash_of}
use Rattle.ots_chain.proofs.Heights.{within_table}

same_header : (t : Table) (height : ℕ) (a b : Header) → header_at t height ≡ Some a → header_at t height ≡ Some b → a ≡ b
same_header t height a b p q = same_Some a b (sym p ∙ q)

clash : (linked : Type 0) (bits : ℕ) (hash : List ℕ) (f : ChainFault) → FaultOf linked bits hash None → FaultOf linked bits hash (Some f) → ⊥
clash linked bits hash BadLink good bad = bad good.0
clash linked bits hash BadBits good bad = bad.1 good.1
clash linked bits hash AboveTarget good bad = bad.2 good.2

one_fault : (linked : Type 0) (bits : ℕ) (hash : List ℕ) (f g : ChainFault) → FaultOf linked bits hash (Some f) → FaultOf linked bits hash (Some g) → f ≡ g
one_fault linked bits hash BadLink BadLink a b = refl
one_fault linked bits hash BadLink BadBits a b = absurd (a b.0)
one_fault linked bits hash BadLink AboveTarget a b = absurd (a b.0)
one_fault linked bits hash BadBits BadLink a b = absurd (b a.0)
one_fault linked bits hash BadBits BadBits a b = refl
one_fault linked bits hash BadBits AboveTarget a b = absurd (a.1 b.1)
one_fault linked bits hash AboveTarget BadLink a b = absurd (b a.0)
one_fault linked bits hash AboveTarget BadBits a b = absurd (b.1 a.1)
one_fault linked bits hash AboveTarget AboveTarget a b = refl

-- the fault of one header, told of another that stands at the same height
told_of : (t : Table) (height : ℕ) (answer : Option ChainFault) (h : Header) → header_at t height ≡ Some h → HasFaultAt t height answer
    → FaultOf (IsLinked t height h) h.bits (hash_of h) answer
told_of t height answer h there has =
    subst (λ x. FaultOf (IsLinked t height x) x.bits (hash_of x) answer) (same_header t height has.header h has.there there) has.fault

no_fault : (t : Table) (height : ℕ) (f : ChainFault) → HasFaultAt t height None → HasFaultAt t height (Some f) → ⊥
no_fault t height f good bad =
    clash (IsLinked t height good.header) good.header.bits (hash_of good.header) f good.fault (told_of t height (Some f) good.header good.there bad)

-- where all below a height are good, no fault stands below it
not_below : (t : Table) (end height : ℕ) (f : ChainFault) → AreGood t end → t.first ≤ height → HasFaultAt t height (Some f) → end ≤ height
not_below t end height f good from bad =
    let past : height < end → ⊥ = λ below. no_fault t height f (good height from below) bad in
    omega (arith, lt_of_not-le past)

pub one : (t : Table) (a b : ChainCheck) → IsCheckOf t a → IsCheckOf t b → a ≡ b
one t (Whole first last tip) (Whole first' last' tip') a b =
    let same : last ≡ last' = omega (arith, a.1, b.1) in
    let header = same_header t last' a.3.header b.3.header (subst (λ n. header_at t n ≡ Some a.3.header) same a.3.there) b.3.there in
    let hash : tip ≡ tip' = a.3.hash ∙ ap hash_of header ∙ sym b.3.hash in
    let start : first ≡ first' = a.0 ∙ sym b.0 in
    λ i. Whole (start i) (same i) (hash i)
one t (Whole first last tip) (Broken height fault) a b =
    let least = not_below t (last + 1) height fault a.2 b.0 b.2 in
    absurd (omega (arith, least, a.1, within_table t height b.2.header b.2.there))
one t (Broken height fault) (Whole first last tip) a b =
    let least = not_below t (last + 1) height fault b.2 a.0 a.2 in
    absurd (omega (arith, least, b.1, within_table t height a.2.header a.2.there))
one t (Broken height fault) (Broken height' fault') a b =
    let least = not_below t height height' fault' a.1 b.0 b.2 in
    let most = not_below t height' height fault b.1 a.0 a.2 in
    let same : height ≡ height' = omega (arith, least, most) in
    let first = subst (λ n. HasFaultAt t n (Some fault)) same a.2 in
    let one = one_fault (IsLinked t height' b.2.header) b.2.header.bits (hash_of b.2.header) fault fault'
    (told_of t height' (Some fault) b.2.header b.2.there first) b.2.fault in
    λ i. Broken (same i) (one i)

pub linked : (t : Table) (check : ChainCheck) (height : ℕ) (before header : Header) → IsWhole check → IsCheckOf t check → t.first ≤ height
    → header_at t height ≡ Some before → header_at t (height + 1) ≡ Some header → header.previous ≡ hash_of before
linked t (Broken h f) height before header whole is from there next = absurd whole
linked t (Whole first last tip) height before header whole is from there next =
    let good = is.2 (height + 1) (omega (arith, from)) (omega (arith, is.1, within_table t (height + 1) header next)) in
    let link = (told_of t (height + 1) None header next good).0 in
    let back : height + 1 - 1 ≡ height = omega arith in
    elim link [
      | inl same ↦ absurd (omega (arith, same, from))
      | inr named ↦ named.2 ∙ ap hash_of (same_header t height named.0 before (subst (λ n. header_at t n ≡ Some named.0) back named.1) there)
    ]
