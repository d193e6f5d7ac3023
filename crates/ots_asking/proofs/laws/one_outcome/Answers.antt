use Rattle.ots_asking.proofs.KnownLaws.{known_laws}
use Rattle.ots_asking.proofs.OneOutcome.{one}
use Rattle.ots_asking.proofs.laws.one_outcome.Goals as goal

pub returns : goal.returns
returns c = λ n k reply a b shape. one known_laws n k shape reply a b
