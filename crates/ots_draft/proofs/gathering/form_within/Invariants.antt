use Rattle.std.proofs.Common.{◌≡◌, List, take, map}
use Rattle.ots_draft.specs.inner.Gathered.{IsGatheredAny}
use Rattle.ots_tree.specs.Wire.{Node, pre}
use Rattle.ots_draft.proofs.gathering.form_within.Given as goal

-- The trees before are gathered.
abbrev pub invariant-loop-tree : goal.invariant-loop-tree
invariant-loop-tree l = (nodes : List Node) → map pre nodes ≡ l.trees → IsGatheredAny (take l.tree-index nodes) l.gathered
