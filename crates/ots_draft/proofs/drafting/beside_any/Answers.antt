use Rattle.std.proofs.Common.{subst}
use Rattle.ots_draft.proofs.Gathers.{beside_paths}
use Rattle.ots_draft.specs.inner.Gathering.{HasPathsAny}
use Rattle.ots_draft.proofs.drafting.beside_any.Goals as goal

pub returns-in-Some : goal.returns-in-Some
returns-in-Some c = λ ps qs any tree.
    beside_paths ps qs c.in-Some.before c.args.tree c.beside.result (subst (HasPathsAny ps) c.in-Some.is any) tree c.beside.ensures
