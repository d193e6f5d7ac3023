use Rattle.ots_address.proofs.ListLemmas.{one_bad, none_bad}
use Rattle.ots_address.proofs.OneLemmas.{one_list}
use Rattle.ots_address.proofs.laws.one_list_answer.Goals as goal

pub returns-clause-one : goal.returns-clause-one
returns-clause-one c = one_bad

pub returns-clause-none : goal.returns-clause-none
returns-clause-none c = none_bad

pub returns-clause-given : goal.returns-clause-given
returns-clause-given c = one_list
