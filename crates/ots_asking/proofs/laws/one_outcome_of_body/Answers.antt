use Rattle.ots_asking.proofs.KnownLaws.{known_laws}
use Rattle.ots_asking.proofs.OneOutcome.{one_of_body}
use Rattle.ots_asking.proofs.laws.one_outcome_of_body.Goals as goal

pub returns : goal.returns
returns c = λ n k body a b shape. one_of_body known_laws n k shape body a b
