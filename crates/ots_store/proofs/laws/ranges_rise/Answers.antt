use Rattle.ots_store.proofs.Ordered.{orderly}
use Rattle.ots_store.proofs.laws.ranges_rise.Goals as goal

pub returns : goal.returns
returns c records order = orderly records order
