use Rattle.std.proofs.Common.{arith}
use Rattle.ots_gateway.proofs.Taken.{all_fit}
use Rattle.ots_gateway.proofs.laws.taken_trees_fit.Goals as goal

pub returns : goal.returns
returns c way trees fits = all_fit way trees (omega (arith, fits))
