use Rattle.std.proofs.Common.{◌∙◌, ◌++◌, ℕ, List, sym, ap, subst, drop}
use Rattle.std.proofs.lemmas.List.{take-append-drop}
use Rattle.hex.specs.Hex.{encode_lower}
use Rattle.ots_sums.specs.inner.Parts.{IsRest}
use Rattle.ots_sums.proofs.SumForm.{after, digits, too_short}
use Rattle.ots_sums.proofs.line.body_of.Goals as goal

pub returns-in_err-digits : goal.returns-in_err-digits
returns-in_err-digits c = rw c.from_residual.ensures (λ digest name b. too_short c.args.text.now digest name c.in_err-digits.ensures.cases b)

pub returns-in_err-digest : goal.returns-in_err-digest
returns-in_err-digest c = rw c.from_residual-in_err-digest.ensures (λ digest name b.
    c.in_err-digest.ensures digest b.is_digest (c.in_ok-digits.ensures.cases.1 ∙ digits c.args.text.now digest name b))

pub returns-in_err-name : goal.returns-in_err-name
returns-in_err-name c = rw c.from_residual-in_err-name.ensures (λ digest name b.
    c.in_err-name.ensures name (subst (λ (z : List ℕ). IsRest z name) (sym (c.in_ok-digits.ensures.cases.2 ∙ after c.args.text.now digest name b)) b.is_rest))

pub returns : goal.returns
returns c =
    let parts = c.in_ok-digits.ensures.cases in
    let text = c.args.text.now in
    record {
      rest = c.in_ok-digits.rest.now;
      is_rest = c.in_ok-name.ensures;
      split = sym (take-append-drop 64 text) ∙ ap (λ (z : List ℕ). z ++ drop 64 text) (sym parts.1 ∙ c.in_ok-digest.ensures.0)
          ∙ ap (λ (z : List ℕ). encode_lower c.in_ok-digest.digest ++ z) (sym parts.2);
      is_digest = c.in_ok-digest.ensures.1;
    }
