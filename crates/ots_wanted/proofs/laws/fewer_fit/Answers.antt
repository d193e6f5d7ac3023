use Rattle.ots_wanted.proofs.Fewer.{fewer_fit}
use Rattle.ots_wanted.proofs.laws.fewer_fit.Goals as goal

pub returns : goal.returns
returns c = fewer_fit
