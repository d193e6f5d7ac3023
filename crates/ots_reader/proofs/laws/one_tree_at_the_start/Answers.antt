use Rattle.ots_reader.proofs.Walk.{tree_at, tree_spelled, one_tree_at}
use Rattle.ots_reader.proofs.laws.one_tree_at_the_start.Goals as goal

pub returns-clause-written : goal.returns-clause-written
returns-clause-written c = tree_at

pub returns-clause-read : goal.returns-clause-read
returns-clause-read c = tree_spelled

pub returns-clause-one : goal.returns-clause-one
returns-clause-one c = one_tree_at
