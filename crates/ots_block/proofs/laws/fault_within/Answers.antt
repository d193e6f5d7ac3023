use Rattle.ots_block.proofs.OneAnswer.{fault_within_lem}
use Rattle.ots_block.proofs.laws.fault_within.Goals as goal

pub returns : goal.returns
returns c = fault_within_lem
