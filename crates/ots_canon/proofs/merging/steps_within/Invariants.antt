use Rattle.std.proofs.Common.{◌≤◌, take, get_or}
use Rattle.std.specs.Prelude.{All}
use Rattle.ots_canon.specs.Chains.{AreAlike}
use Rattle.ots_canon.proofs.merging.steps_within.Given as goal

abbrev pub invariant-loop-place : goal.invariant-loop-place
invariant-loop-place l = record { more : l.known ≤ l.steps; few : l.steps ≤ l.ahead; alike : All (λ k. AreAlike l.tokens (get_or l.run 0 0) k l.steps) (take l.place-index l.run) }
