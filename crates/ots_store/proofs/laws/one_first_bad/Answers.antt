use Rattle.ots_store.proofs.Bad.{one_bad}
use Rattle.ots_store.proofs.laws.one_first_bad.Goals as goal

pub returns : goal.returns
returns c before entries first second one two = one_bad before entries first second one two
