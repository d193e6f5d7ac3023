use Rattle.ots_completing.proofs.Example.{can_upgrade_lem}
use Rattle.ots_completing.proofs.laws.some_can_be_upgraded.Goals as goal

pub returns : goal.returns
returns c = can_upgrade_lem
