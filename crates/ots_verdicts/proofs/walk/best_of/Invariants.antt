use Rattle.std.proofs.Common.{drop}
use Rattle.std.specs.Option.{option_copied}
use Rattle.ots_tree.specs.Walk.{open_at}
use Rattle.ots_verdicts.specs.Walked.{walked, nothing, messages}
use Rattle.ots_verdicts.proofs.Messages.{Left}
use Rattle.ots_verdicts.proofs.walk.best_of.Given as goal

abbrev pub invariant-loop-token : goal.invariant-loop-token
invariant-loop-token l =
    let litecoin = option_copied l.litecoin in
    Left l.bitcoin litecoin (walked l.bitcoin litecoin nothing (messages l.digest l.tokens)) l.best (open_at l.walk) (drop l.token-index l.tokens)
