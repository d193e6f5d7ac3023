use Rattle.std.proofs.Common.{◌∷◌, ◌++◌, [], subst}
use Rattle.ots_draft.proofs.Gathers.{first_all}
use Rattle.ots_draft.specs.inner.Gathered.{IsGatheredAny}
use Rattle.ots_draft.proofs.gathering.with_next.Goals as goal

pub returns-in-Some : goal.returns-in-Some
returns-in-Some c = λ nodes u any next. c.joined.ensures nodes u (subst (IsGatheredAny nodes) c.in-Some.is any) next

pub returns-in-None : goal.returns-in-None
returns-in-None c = λ nodes u any next.
    c.in_form.ensures (nodes ++ u ∷ []) (first_all nodes u c.args.tree.now (subst (IsGatheredAny nodes) c.in-None.is any) next)
