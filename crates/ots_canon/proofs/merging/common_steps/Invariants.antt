use Rattle.std.proofs.Common.{◌≤◌, ◌-◌}
use Rattle.ots_canon.specs.Chains.{IsChain}
use Rattle.ots_canon.proofs.merging.common_steps.Given as goal

abbrev pub invariant-loop-ahead : goal.invariant-loop-ahead
invariant-loop-ahead l = record { chain : IsChain l.tokens l.run l.steps; few : l.steps ≤ l.ahead; small : l.ahead ≤ 511 }

abbrev pub decreases-loop-ahead : goal.decreases-loop-ahead
decreases-loop-ahead l = 511 - l.ahead
