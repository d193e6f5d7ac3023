use Rattle.ots_tree.proofs.Numbered.{node_tokens}
use Rattle.ots_tree.proofs.ListedPaths.{node_ends}
use Rattle.ots_tree.proofs.laws.one_listing.Goals as goal

pub returns-clause-tokens : goal.returns-clause-tokens
returns-clause-tokens c = λ k t. node_tokens t k

pub returns-clause-paths : goal.returns-clause-paths
returns-clause-paths c = node_ends
