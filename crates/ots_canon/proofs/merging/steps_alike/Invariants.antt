use Rattle.std.proofs.Common.{◌≤◌, ◌-◌}
use Rattle.ots_canon.specs.Chains.{AreAlike}
use Rattle.ots_canon.proofs.merging.steps_alike.Given as goal

abbrev pub invariant-loop-steps : goal.invariant-loop-steps
invariant-loop-steps l = record { alike : AreAlike l.tokens l.first l.place l.steps; more : l.known ≤ l.steps; few : l.steps ≤ l.ahead }

abbrev pub decreases-loop-steps : goal.decreases-loop-steps
decreases-loop-steps l = l.ahead - l.steps
