use Rattle.std.proofs.Common.{◌≡◌, ◌++◌}
use Rattle.ots_sample.specs.Tokens.{tokens_below}
use Rattle.ots_sample.proofs.tokens.tokens_of.Given as goal

abbrev pub invariant-loop-number : goal.invariant-loop-number
invariant-loop-number l = l.tokens.items ++ tokens_below l.number ≡ tokens_below l.paths
