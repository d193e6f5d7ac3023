use Rattle.ots_wanted.proofs.OneWanted.{one}
use Rattle.ots_wanted.proofs.laws.one_wanted.Goals as goal

pub returns : goal.returns
returns c = one
