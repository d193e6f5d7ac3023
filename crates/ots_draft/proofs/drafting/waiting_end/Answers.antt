use Rattle.std.proofs.Common.{◌≡◌, ◌∙◌, List, ℕ, [], ◌∷◌, ap, sym, subst, refl}
use Rattle.std.specs.Prelude.{Result, Ok, Err, IfOk}
use Rattle.ots_attest.specs.declared.attestation.Attestation.{Attestation}
use Rattle.ots_attest.specs.declared.attestation.Attestation.TheVariants.{Pending}
use Rattle.ots_draft.specs.Draft.{post_uri, waiting}
use Rattle.ots_draft.specs.inner.Gathering.{HasPaths}
use Rattle.ots_tree.proofs.MadePaths.{paths-lone}
use Rattle.ots_tree.specs.Made.{lone}
use Rattle.ots_tree.specs.Wire.{pre}
use Rattle.ots_tree.specs.declared.token.Token.{Token}
use Rattle.ots_draft.proofs.drafting.waiting_end.Goals as goal

lone_waits : {E : Type 0} (uri address : List ℕ) (r : Result (List Token) E) → uri ≡ post_uri address → IfOk r (λ tree. tree ≡ pre (lone [] (Pending uri)))
    → IfOk r (HasPaths (waiting [] (address ∷ [])))
lone_waits uri address (Err e) same is = tt
lone_waits uri address (Ok tree) same is = record {
  node = lone [] (Pending uri);
  are = sym is;
  paths_are = paths-lone [] (Pending uri) ∙ ap (λ (u : List ℕ). record { ops = []; end = Pending u } ∷ []) same;
}

pub returns : goal.returns
returns c = lone_waits c.in_ok-post_uri.field-0 c.args.url.now.text c.single.result c.in_ok-post_uri.ensures c.single.ensures
