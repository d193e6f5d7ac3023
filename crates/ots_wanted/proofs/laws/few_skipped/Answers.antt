use Rattle.ots_wanted.proofs.Few.{few_skipped}
use Rattle.ots_wanted.proofs.laws.few_skipped.Goals as goal

pub returns : goal.returns
returns c = few_skipped
