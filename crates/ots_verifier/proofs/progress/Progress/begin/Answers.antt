use Rattle.std.proofs.Common.{refl}
use Rattle.ots_verifier.proofs.Outcomes.{before_any}
use Rattle.ots_verifier.proofs.progress.Progress.begin.Goals as goal

pub returns-clause-none : goal.returns-clause-none
returns-clause-none c = λ bitcoin litecoin. before_any bitcoin litecoin _ c.in_ok-begin.ensures.fresh refl refl
