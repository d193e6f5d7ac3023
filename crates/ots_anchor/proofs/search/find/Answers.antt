use Rattle.std.proofs.Common.{◌≡◌, ◌∙◌, subst, List, ℕ}
use Rattle.std.specs.Prelude.{IfOk, IfErr}
use Rattle.ots_anchor.specs.Find.{IsFound, IsFindError}
use Rattle.ots_anchor.proofs.Looks.{finds_it}
use Rattle.ots_anchor.proofs.search.find.Goals as goal

pub returns-clause-finds : goal.returns-clause-finds
returns-clause-finds c =
    let same : c.deref-2.result.now ≡ c.args.roots.now = c.deref-2.ensures.value ∙ c.in_ok-finders.ensures in
    λ found is.
    finds_it c.args.block.now c.args.roots.now c.find_by.result found c.told-roots
    (subst (λ (z : List (List ℕ)). IfOk c.find_by.result (λ f. IsFound c.args.block.now z f)) same c.find_by.ensures.ok)
    (subst (λ (z : List (List ℕ)). IfErr c.find_by.result (λ e. IsFindError c.args.block.now z e)) same c.find_by.ensures.err) is
