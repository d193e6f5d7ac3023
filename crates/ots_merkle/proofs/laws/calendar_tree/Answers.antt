use Rattle.ots_merkle.proofs.Trees.{root_of_one, root_of_two}
use Rattle.ots_merkle.proofs.PathLaws.{path_of_one, path_of_left, path_of_right}
use Rattle.ots_merkle.proofs.laws.calendar_tree.Goals as goal

pub returns-clause-one_leaf : goal.returns-clause-one_leaf
returns-clause-one_leaf c = root_of_one

pub returns-clause-more : goal.returns-clause-more
returns-clause-more c = root_of_two

pub returns-clause-no_step : goal.returns-clause-no_step
returns-clause-no_step c = path_of_one

pub returns-clause-left : goal.returns-clause-left
returns-clause-left c = path_of_left

pub returns-clause-right : goal.returns-clause-right
returns-clause-right c = path_of_right
