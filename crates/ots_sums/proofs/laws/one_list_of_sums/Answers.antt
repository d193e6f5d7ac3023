use Rattle.ots_inputs.proofs.OneFile.{lines_given_once, lines_never_both, one_bad_line}
use Rattle.ots_sums.proofs.SumForm.{sum_form}
use Rattle.ots_sums.proofs.laws.one_list_of_sums.Goals as goal

pub returns-clause-given : goal.returns-clause-given
returns-clause-given c = lines_given_once sum_form

pub returns-clause-refused : goal.returns-clause-refused
returns-clause-refused c = one_bad_line sum_form

pub returns-clause-never_both : goal.returns-clause-never_both
returns-clause-never_both c = lines_never_both sum_form
