use Rattle.ots_canon.specs.Places.{total}
use Rattle.ots_canon.proofs.Pruned.{IsWalking}
use Rattle.ots_canon.proofs.pruning.first_path.Given as goal

abbrev pub invariant-loop-first : goal.invariant-loop-first
invariant-loop-first l = IsWalking l.tokens l.height l.items.items l.path.items

abbrev pub decreases-loop-first : goal.decreases-loop-first
decreases-loop-first l = total l.ends.items l.items.items
