use Rattle.ots_archive_laws.proofs.AsUpgraded.{as_upgraded}
use Rattle.ots_archive_laws.proofs.laws.taken_as_upgraded.Goals as goal

pub returns : goal.returns
returns c = as_upgraded
