use Rattle.ots_verdicts.proofs.OneVerdict.{one}
use Rattle.ots_verdicts.proofs.laws.one_verdict.Goals as goal

pub returns : goal.returns
returns c = one
