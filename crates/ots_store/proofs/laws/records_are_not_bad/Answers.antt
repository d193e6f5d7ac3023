use Rattle.ots_store.proofs.Bad.{not_bad}
use Rattle.ots_store.proofs.laws.records_are_not_bad.Goals as goal

pub returns : goal.returns
returns c before entries i are bad = not_bad before entries i are bad
