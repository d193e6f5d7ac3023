use Rattle.std.proofs.Common.{rules}
use Rattle.std.specs.Option.{option_copied}
use Rattle.ots_verdicts.proofs.Judged.{verdict_found}
use Rattle.ots_verdicts.proofs.confirming.verdict.Goals as goal

pub returns-clause-verdict : goal.returns-clause-verdict
returns-clause-verdict c =
    let walk = c.in_ok-best.ensures in
    verdict_found c.args.proof.now c.args.target.now c.args.bitcoin.now (option_copied c.args.litecoin) c.in_ok-best.best c.verdict.result c.tokens.ensures.pre.0 c.tokens.ensures.pre.1
    (search rules)
    (rw c.tokens.ensures.tokens at walk)
    c.verdict.ensures
