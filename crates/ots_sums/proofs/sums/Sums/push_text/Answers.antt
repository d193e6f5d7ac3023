use Rattle.std.proofs.Common.{sym, subst, List, ℕ, refl}
use Rattle.ots_sums.specs.inner.Parts.{IsBody, IsText, SpellsName}
use Rattle.ots_sums.proofs.Keeping.{pushes_as}
use Rattle.ots_sums.proofs.SumForm.{one_body}
use Rattle.ots_sums.proofs.sums.Sums.push_text.Goals as goal

pub returns-in-Some : goal.returns-in-Some
returns-in-Some c =
    let text = c.args.text.now in
    let body = c.in-Some.body in
    pushes_as _ (IsText text c.args.is_escaped) c.args.self.now c.push_entry.new.self c.push_entry.result
    (λ e is. record { rest = body.name.now; body = subst (λ (z : List ℕ). IsBody text z body.name.now) (sym is.0) c.in-Some.ensures; name = is.1 })
    (λ e is. let one = one_body text e.digest body.digest is.rest body.name.now is.body c.in-Some.ensures in
    (one.0, subst (λ (z : List ℕ). SpellsName z c.args.is_escaped e.name) one.1 is.name))
    c.push_entry.ensures

pub returns-in-None : goal.returns-in-None
returns-in-None c = (λ e is. c.in-None.ensures e.digest is.rest is.body, refl)
