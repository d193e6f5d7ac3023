use Rattle.std.proofs.Common.{◌∷◌, [], arith}
use Rattle.ots_merkle.proofs.Blocks.{root_of_few, root_of_more, branch_of_few, branch_of_more}
use Rattle.ots_merkle.proofs.laws.block_tree.Goals as goal

pub returns-clause-one_id : goal.returns-clause-one_id
returns-clause-one_id c = λ id. root_of_few (id ∷ []) (omega arith)

pub returns-clause-more : goal.returns-clause-more
returns-clause-more c = root_of_more

pub returns-clause-no_step : goal.returns-clause-no_step
returns-clause-no_step c = λ id. branch_of_few (id ∷ []) 0 (omega arith)

pub returns-clause-step : goal.returns-clause-step
returns-clause-step c = branch_of_more
