use Rattle.ots_calendar_url.proofs.Lists.{never_both, one_bad, one_list}
use Rattle.ots_calendar_url.proofs.laws.one_list_of_urls.Goals as goal

pub returns-clause-given : goal.returns-clause-given
returns-clause-given c = one_list

pub returns-clause-refused : goal.returns-clause-refused
returns-clause-refused c = one_bad

pub returns-clause-never_both : goal.returns-clause-never_both
returns-clause-never_both c = never_both
