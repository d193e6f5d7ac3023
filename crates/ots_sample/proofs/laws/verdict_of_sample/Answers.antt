use Rattle.ots_sample.proofs.Yes.{always_yes}
use Rattle.ots_sample.proofs.laws.verdict_of_sample.Goals as goal

pub returns : goal.returns
returns c = always_yes
