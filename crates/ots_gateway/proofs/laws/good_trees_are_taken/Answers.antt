use Rattle.ots_gateway.proofs.Taken.{good_taken}
use Rattle.ots_gateway.proofs.laws.good_trees_are_taken.Goals as goal

pub returns : goal.returns
returns c = good_taken
