use Rattle.ots_stamping.proofs.Example.{can_stamp_lem}
use Rattle.ots_stamping.proofs.laws.some_can_be_stamped.Goals as goal

pub returns : goal.returns
returns c = can_stamp_lem
