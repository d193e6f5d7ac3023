use Rattle.ots_tree.proofs.Closing.{front_law}
use Rattle.ots_tree.proofs.laws.fronts.Goals as goal

pub returns : goal.returns
returns c = front_law
