use Rattle.ots_verifier.proofs.Outcomes.{exact_check}
use Rattle.ots_verifier.proofs.verifier.Verifier.finish.Goals as goal

pub returns-clause-checks : goal.returns-clause-checks
returns-clause-checks c = rw (← c.self.view_is) (c.found.ensures _ _ c.self.inside.fed.bytes c.self.invariant.0)

pub returns-clause-exact : goal.returns-clause-exact
returns-clause-exact c = rw (← c.self.view_is) (exact_check _ _ c.self.inside.fed.bytes c.found.result (c.found.ensures _ _ c.self.inside.fed.bytes c.self.invariant.0))
