use Rattle.ots_address.proofs.OneLemmas.{given_once, never_both, refused_once}
use Rattle.ots_address.proofs.laws.one_address_answer.Goals as goal

pub returns-clause-refused : goal.returns-clause-refused
returns-clause-refused c = refused_once

pub returns-clause-never_both : goal.returns-clause-never_both
returns-clause-never_both c = never_both

pub returns-clause-given : goal.returns-clause-given
returns-clause-given c = given_once
