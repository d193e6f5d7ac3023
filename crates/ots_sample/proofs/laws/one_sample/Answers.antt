use Rattle.ots_sample.proofs.OneSample.{one_sample}
use Rattle.ots_sample.proofs.laws.one_sample.Goals as goal

pub returns : goal.returns
returns c = one_sample
