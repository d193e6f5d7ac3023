use Rattle.ots_calendar_inputs.proofs.OneInput.{digests_given_once, digests_never_both, digests_refused_once}
use Rattle.ots_calendar_inputs.proofs.laws.one_list_of_digests.Goals as goal

pub returns-clause-given : goal.returns-clause-given
returns-clause-given c = digests_given_once

pub returns-clause-refused : goal.returns-clause-refused
returns-clause-refused c = digests_refused_once

pub returns-clause-never_both : goal.returns-clause-never_both
returns-clause-never_both c = digests_never_both
