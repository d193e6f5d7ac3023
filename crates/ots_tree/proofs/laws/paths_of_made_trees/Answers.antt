use Rattle.ots_tree.proofs.MadePaths.{paths-lone, paths-chain, paths-joined}
use Rattle.ots_tree.proofs.laws.paths_of_made_trees.Goals as goal

pub returns-clause-lone : goal.returns-clause-lone
returns-clause-lone c = paths-lone

pub returns-clause-chain : goal.returns-clause-chain
returns-clause-chain c = paths-chain

pub returns-clause-joined : goal.returns-clause-joined
returns-clause-joined c = paths-joined
