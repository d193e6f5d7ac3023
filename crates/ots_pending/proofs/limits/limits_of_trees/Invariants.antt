use Rattle.std.proofs.Common.{◌≡◌, ◌<◌, ℕ, List, Option, Some}
use Rattle.std.specs.List.{slice_get}
use Rattle.ots_tree.specs.declared.token.Token.{Token}
use Rattle.ots_pending.specs.Limits.{HasLimits}
use Rattle.ots_pending.proofs.limits.limits_of_trees.Given as goal

-- Those before are within them.
abbrev pub invariant-loop-tree : goal.invariant-loop-tree
invariant-loop-tree l = (k : ℕ) (tree : Option (List Token)) → k < l.tree-index → slice_get l.trees k ≡ Some tree → HasLimits tree
