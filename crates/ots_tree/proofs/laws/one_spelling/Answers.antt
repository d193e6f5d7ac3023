use Rattle.ots_tree.proofs.Determined.{bytes-apart}
use Rattle.ots_tree.proofs.laws.one_spelling.Goals as goal

pub returns : goal.returns
returns c = bytes-apart
