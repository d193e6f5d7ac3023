use Rattle.ots_chain.proofs.OneCheck.{one}
use Rattle.ots_chain.proofs.laws.one_check.Goals as goal

pub returns : goal.returns
returns c = one
