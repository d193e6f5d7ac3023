use Rattle.ots_address.proofs.ListLemmas.{no_next}
use Rattle.ots_address.proofs.list.next_parts.Goals as goal

pub returns-clause-none : goal.returns-clause-none
returns-clause-none c = no_next _ _ _ _ c.as_bytes.ensures.value c.read_parts.ensures.none
