use Rattle.ots_calendar_url.proofs.Lists.{no_next}
use Rattle.ots_calendar_url.proofs.list.next_scheme.Goals as goal

pub returns-clause-none : goal.returns-clause-none
returns-clause-none c = no_next _ _ _ _ c.as_bytes.ensures.value c.scheme_of.ensures.none
