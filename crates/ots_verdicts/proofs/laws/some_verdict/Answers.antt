use Rattle.ots_verdicts.proofs.OneVerdict.{some_one}
use Rattle.ots_verdicts.proofs.laws.some_verdict.Goals as goal

pub returns : goal.returns
returns c = some_one c.args.proof.now c.tokens.ensures.pre
