use Rattle.ots_calendar_inputs.proofs.OneInput.{block_given_once, block_never_both, block_refused_once}
use Rattle.ots_calendar_inputs.proofs.laws.one_block.Goals as goal

pub returns-clause-given : goal.returns-clause-given
returns-clause-given c = block_given_once

pub returns-clause-refused : goal.returns-clause-refused
returns-clause-refused c = block_refused_once

pub returns-clause-never_both : goal.returns-clause-never_both
returns-clause-never_both c = block_never_both
