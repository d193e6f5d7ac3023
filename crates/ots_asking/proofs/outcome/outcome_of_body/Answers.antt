use Rattle.std.proofs.Common.{refl}
use Rattle.ots_asking.specs.Outcome.{more}
use Rattle.ots_asking.proofs.outcome.outcome_of_body.Goals as goal

-- src/outcome.rt:62:17
pub returns-then-used-body-clause-outcome : goal.returns-then-used-body-clause-outcome
returns-then-used-body-clause-outcome c = more _ _ c.in-Ok.ensures.ok c.if-used-body.true refl
