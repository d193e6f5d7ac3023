use Rattle.ots_tree.proofs.Determined.{pre-apart}
use Rattle.ots_tree.proofs.laws.one_tree.Goals as goal

pub returns : goal.returns
returns c = pre-apart
