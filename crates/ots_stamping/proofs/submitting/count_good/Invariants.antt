use Rattle.std.proofs.Common.{◌≡◌, ◌≤◌, length, take}
use Rattle.ots_stamp.specs.Stamped.{good_trees}
use Rattle.ots_stamping.proofs.submitting.count_good.Given as goal

-- So many of the first ones are good.
abbrev pub invariant-loop-outcome : goal.invariant-loop-outcome
invariant-loop-outcome l = (l.count ≡ length (good_trees (take l.outcome-index l.outcomes))) × (l.count ≤ l.outcome-index)
