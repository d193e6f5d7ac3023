use Rattle.ots_ops.proofs.OneOperation.{spell-apart}
use Rattle.ots_ops.proofs.laws.one_operation.Goals as goal

pub returns : goal.returns
returns c = spell-apart
