-- A proof has exactly one verdict.
use Rattle.std.proofs.Common.{◌≡◌, ℕ, Bool, true, false, List, Option, Some, None, refl, sym, ap, subst, ◌∙◌, arith}
use Rattle.std.specs.Prelude.{bytes_eq}
use Rattle.std.proofs.lemmas.Slice.Eq.{bytes_eq-Decides}
use Rattle.ots_tree.specs.declared.detached.Detached.{Detached}
use Rattle.ots_tree.specs.Wire.{IsPre}
use Rattle.ots_headers.specs.HeaderTable.{Table, time_at}
use Rattle.ots_verdicts.specs.declared.verdicts.Chain.{Chain}
use Rattle.ots_verdicts.specs.declared.verdicts.Chain.TheVariants as chain
use Rattle.ots_verdicts.specs.declared.verdicts.Verdict.{Verdict}
use Rattle.ots_verdicts.specs.declared.verdicts.Verdict.TheVariants.{Yes, NoDigest, NoPath}
use Rattle.ots_verdicts.specs.Confirmed.{IsLeastConfirmed, NoneConfirmedIn, IsLeastConfirmedIn, IsVerdict}
use Rattle.ots_verdicts.specs.Walked.{walked, nothing, messages, verdict_of}
use Rattle.ots_verdicts.proofs.Judged.{walk_verdict}

record Same (h k x y : ℕ) : Type 0 where
  height : h ≡ k
  time : x ≡ y

some_same : (x y : ℕ) → (let o : Option ℕ = Some x in o) ≡ Some y → x ≡ y
some_same x y e = cc

same_least : (c : Chain) (table : Table) (proof : Detached) (h k x y : ℕ) → IsLeastConfirmed c table proof h x → IsLeastConfirmed c table proof k y → Same h k x y
same_least c table proof h k x y a b =
    let low = a.least k b.confirmed in
    let high = b.least h a.confirmed in
    let same : h ≡ k = omega arith in
    record { height = same; time = some_same x y (sym a.timed ∙ ap (time_at table) same ∙ b.timed) }

same_least_in : (c : Chain) (table : Option Table) (proof : Detached) (h k x y : ℕ) → IsLeastConfirmedIn c table proof h x → IsLeastConfirmedIn c table proof k y → Same h k x y
same_least_in c None proof h k x y a b = absurd a
same_least_in c (Some table) proof h k x y a b = same_least c table proof h k x y a b

not_none : (c : Chain) (table : Option Table) (proof : Detached) (h x : ℕ) → IsLeastConfirmedIn c table proof h x → NoneConfirmedIn c table proof → ⊥
not_none c None proof h x a none = a
not_none c (Some table) proof h x a none = none h a.confirmed

same_yes : (c : Chain) (h k x y : ℕ) → Same h k x y → Yes c h x ≡ Yes c k y
same_yes c h k x y s = λ i. Yes c (s.height i) (s.time i)

pub one : (proof : Detached) (target : List ℕ) (bitcoin : Table) (litecoin : Option Table) (v w : Verdict)
    → IsVerdict proof target bitcoin litecoin v → IsVerdict proof target bitcoin litecoin w → v ≡ w
one p e b l (Yes chain.Bitcoin h x) (Yes chain.Bitcoin k y) f g = same_yes chain.Bitcoin h k x y (same_least chain.Bitcoin b p h k x y f.1 g.1)
one p e b l (Yes chain.Bitcoin h x) (Yes chain.Litecoin k y) f g = absurd (g.1 h f.1.confirmed)
one p e b l (Yes chain.Bitcoin h x) NoDigest f g = absurd (g f.0)
one p e b l (Yes chain.Bitcoin h x) NoPath f g = absurd (g.1 h f.1.confirmed)
one p e b l (Yes chain.Litecoin h x) (Yes chain.Bitcoin k y) f g = absurd (f.1 k g.1.confirmed)
one p e b l (Yes chain.Litecoin h x) (Yes chain.Litecoin k y) f g = same_yes chain.Litecoin h k x y (same_least_in chain.Litecoin l p h k x y f.2 g.2)
one p e b l (Yes chain.Litecoin h x) NoDigest f g = absurd (g f.0)
one p e b l (Yes chain.Litecoin h x) NoPath f g = absurd (not_none chain.Litecoin l p h x f.2 g.2)
one p e b l NoDigest (Yes chain.Bitcoin k y) f g = absurd (f g.0)
one p e b l NoDigest (Yes chain.Litecoin k y) f g = absurd (f g.0)
one p e b l NoDigest NoDigest f g = refl
one p e b l NoDigest NoPath f g = absurd (f g.0)
one p e b l NoPath (Yes chain.Bitcoin k y) f g = absurd (f.1 k g.1.confirmed)
one p e b l NoPath (Yes chain.Litecoin k y) f g = absurd (not_none chain.Litecoin l p k y g.2 f.2)
one p e b l NoPath NoDigest f g = absurd (g f.0)
one p e b l NoPath NoPath f g = refl

abbrev Some-verdict : Detached → List ℕ → Table → Option Table → Type 0
Some-verdict proof target bitcoin litecoin = (v : Verdict) × IsVerdict proof target bitcoin litecoin v

by_test : (c : Bool) (proof : Detached) (target : List ℕ) (bitcoin : Table) (litecoin : Option Table) → IsPre proof.tree
    → (c ≡ true → target ≡ proof.digest) → (target ≡ proof.digest → c ≡ true) → Some-verdict proof target bitcoin litecoin
by_test true proof target bitcoin litecoin tree same test =
    let v = verdict_of (walked bitcoin litecoin nothing (messages proof.digest proof.tree)) in
    let h = walk_verdict proof bitcoin litecoin tree.0 tree.1 in
    (v, subst (λ (z : List ℕ). IsVerdict proof z bitcoin litecoin v) (sym (same refl)) h)
by_test false proof target bitcoin litecoin tree same test = (NoDigest, λ e. let c = test e in absurd cc)

pub some_one : (proof : Detached) → IsPre proof.tree → (target : List ℕ) (bitcoin : Table) (litecoin : Option Table) → Some-verdict proof target bitcoin litecoin
some_one proof tree target bitcoin litecoin =
    let d = bytes_eq-Decides target proof.digest in
    by_test (bytes_eq target proof.digest) proof target bitcoin litecoin tree d.0 d.1
