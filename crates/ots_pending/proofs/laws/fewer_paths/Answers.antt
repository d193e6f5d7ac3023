use Rattle.ots_pending.proofs.Shorter.{shorter}
use Rattle.ots_pending.proofs.laws.fewer_paths.Goals as goal

pub returns : goal.returns
returns c = shorter
