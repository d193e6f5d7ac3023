use Rattle.ots_replies.proofs.Whole.{never_both, one_bad, one_list}
use Rattle.ots_replies.proofs.laws.one_answer.Goals as goal

pub returns-clause-given : goal.returns-clause-given
returns-clause-given c = one_list

pub returns-clause-refused : goal.returns-clause-refused
returns-clause-refused c = one_bad

pub returns-clause-never_both : goal.returns-clause-never_both
returns-clause-never_both c = never_both
