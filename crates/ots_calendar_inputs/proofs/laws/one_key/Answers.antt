use Rattle.ots_calendar_inputs.proofs.OneInput.{key_given_once, key_never_both, key_refused_once}
use Rattle.ots_calendar_inputs.proofs.laws.one_key.Goals as goal

pub returns-clause-given : goal.returns-clause-given
returns-clause-given c = key_given_once

pub returns-clause-refused : goal.returns-clause-refused
returns-clause-refused c = key_refused_once

pub returns-clause-never_both : goal.returns-clause-never_both
returns-clause-never_both c = key_never_both
