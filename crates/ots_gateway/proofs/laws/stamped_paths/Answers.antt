use Rattle.ots_gateway.proofs.Lawful.{reply_paths}
use Rattle.ots_gateway.proofs.laws.stamped_paths.Goals as goal

pub returns : goal.returns
returns c = reply_paths
