use Rattle.ots_request_set.proofs.OneSet.{one}
use Rattle.ots_request_set.proofs.laws.one_set.Goals as goal

pub returns : goal.returns
returns c = one
