use Rattle.ots_merkle.proofs.PathLaws.{path_short}
use Rattle.ots_merkle.proofs.laws.path_is_short.Goals as goal

pub returns : goal.returns
returns c = path_short
