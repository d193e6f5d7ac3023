use Rattle.std.proofs.Common.{◌≡◌, map, take}
use Rattle.ots_upgrade.specs.Upgrading.{tree_of}
use Rattle.ots_upgrade.proofs.upgrading.good_trees.Given as goal

abbrev pub invariant-loop-outcome : goal.invariant-loop-outcome
invariant-loop-outcome l = l.trees.items ≡ map tree_of (take l.outcome-index l.outcomes)
