use Rattle.ots_chain.proofs.OneCheck.{linked}
use Rattle.ots_chain.proofs.laws.whole_is_linked.Goals as goal

pub returns : goal.returns
returns c = linked
