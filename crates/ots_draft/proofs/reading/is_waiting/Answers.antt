use Rattle.std.proofs.Common.{◌≡◌, ◌↔◌, ◌∙◌, Bool, true, false, IsTrue, List, ℕ, Option, None, Some, refl, sym, ap, subst, Bor}
use Rattle.std.specs.Option.{is_some}
use Rattle.std.specs.Prelude.{IfNone, IfSome}
use Rattle.ots_attest.specs.declared.attestation.Attestation.{Attestation}
use Rattle.ots_attest.specs.declared.attestation.Attestation.TheVariants.{Pending}
use Rattle.ots_draft.specs.Draft.{IsPost}
use Rattle.ots_draft.specs.inner.Reading.{IsWaiting}
use Rattle.ots_draft.proofs.reading.is_waiting.Goals as goal

-- what was found of the URI decides
by_address : (uri text : List ℕ) (a : Attestation) (found : Option (Bor (List ℕ))) (b : Bool) → text ≡ uri → a ≡ Pending uri → b ≡ is_some found
    → IfSome found (λ address. IsPost text address.now) → IfNone found ((address : List ℕ) → IsPost text address → ⊥) → IsTrue b ↔ IsWaiting a
by_address uri text a None b same is test some none = (
  λ yes. absurd (let clash : true ≡ false = sym yes ∙ test in cc),
  λ waits. let post = subst IsWaiting is waits in absurd (none post.0 (subst (λ (z : List ℕ). IsPost z post.0) (sym same) post.1)),
)
by_address uri text a (Some address) b same is test some none = (
  λ yes. subst IsWaiting (sym is) (address.now, subst (λ (z : List ℕ). IsPost z address.now) same some),
  λ waits. subst IsTrue (sym test) refl,
)

pub returns-in-Pending : goal.returns-in-Pending
returns-in-Pending c =
    by_address c.in-Pending.uri c.text.result.now c.args.attestation.now c.post_address.result c.is_some.result c.text.ensures.text c.in-Pending.is c.is_some.ensures
    c.post_address.ensures.some c.post_address.ensures.none
