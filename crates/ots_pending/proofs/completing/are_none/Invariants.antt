use Rattle.std.proofs.Common.{◌≡◌, ◌<◌, ℕ, List, Option, Some, None}
use Rattle.std.specs.List.{slice_get}
use Rattle.ots_tree.specs.declared.token.Token.{Token}
use Rattle.ots_pending.proofs.completing.are_none.Given as goal

-- Those before are none.
abbrev pub invariant-loop-tree : goal.invariant-loop-tree
invariant-loop-tree l = (i : ℕ) (tree : Option (List Token)) → i < l.tree-index → slice_get l.trees i ≡ Some tree → tree ≡ None
