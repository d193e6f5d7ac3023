use Rattle.ots_calendar_inputs.proofs.OneInput.{old_given_once, old_never_both, old_refused_once}
use Rattle.ots_calendar_inputs.proofs.laws.one_old_journal.Goals as goal

pub returns-clause-given : goal.returns-clause-given
returns-clause-given c = old_given_once

pub returns-clause-refused : goal.returns-clause-refused
returns-clause-refused c = old_refused_once

pub returns-clause-never_both : goal.returns-clause-never_both
returns-clause-never_both c = old_never_both
