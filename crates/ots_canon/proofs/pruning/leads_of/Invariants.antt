use Rattle.std.proofs.Common.{◌≤◌, length}
use Rattle.ots_canon.specs.Leading.{AreLeadsFrom}
use Rattle.ots_canon.proofs.pruning.leads_of.Given as goal

abbrev pub invariant-loop-at : goal.invariant-loop-at
invariant-loop-at l = record { in_range : l.at ≤ length l.tokens; leads : AreLeadsFrom l.tokens l.height l.at l.leads.items }

abbrev pub decreases-loop-at : goal.decreases-loop-at
decreases-loop-at l = l.at
