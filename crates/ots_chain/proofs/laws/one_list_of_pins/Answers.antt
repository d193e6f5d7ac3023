use Rattle.ots_inputs.proofs.OneFile.{lines_given_once, lines_never_both, one_bad_line}
use Rattle.ots_chain.specs.PinLines.{pin_form}
use Rattle.ots_chain.proofs.laws.one_list_of_pins.Goals as goal

pub returns-clause-given : goal.returns-clause-given
returns-clause-given c = lines_given_once pin_form

pub returns-clause-refused : goal.returns-clause-refused
returns-clause-refused c = one_bad_line pin_form

pub returns-clause-never_both : goal.returns-clause-never_both
returns-clause-never_both c = lines_never_both pin_form
