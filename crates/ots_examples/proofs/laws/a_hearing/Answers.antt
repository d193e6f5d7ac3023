use Rattle.std.proofs.Common.{[], ◌∷◌, refl, arith}
use Rattle.ots_examples.proofs.Asked.{each_had}
use Rattle.ots_examples.specs.NotFound.{after, before, outcomes, question, reply}
use Rattle.ots_examples.proofs.laws.a_hearing.Goals as goal

pub returns-clause-had : goal.returns-clause-had
returns-clause-had c = each_had

pub returns-clause-met : goal.returns-clause-met
returns-clause-met c = (
  question ∷ [],
  before (question ∷ []),
  after (question ∷ []),
  outcomes (question ∷ []),
  [],
  reply ∷ [],
  λ none. absurd cc,
  (record { least = omega arith; greatest = omega arith; depth = omega arith }, tt),
  refl,
  refl,
  λ rose. absurd (omega arith),
  each_had (question ∷ []),
)
