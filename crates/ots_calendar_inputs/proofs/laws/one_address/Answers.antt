use Rattle.ots_calendar_inputs.proofs.OneInput.{address_given_once, address_never_both, address_refused_once}
use Rattle.ots_calendar_inputs.proofs.laws.one_address.Goals as goal

pub returns-clause-given : goal.returns-clause-given
returns-clause-given c = address_given_once

pub returns-clause-refused : goal.returns-clause-refused
returns-clause-refused c = address_refused_once

pub returns-clause-never_both : goal.returns-clause-never_both
returns-clause-never_both c = address_never_both
