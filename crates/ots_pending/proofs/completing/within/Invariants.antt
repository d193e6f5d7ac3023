use Rattle.std.proofs.Common.{◌≤◌, ◌-◌, suc, cond, List, Option, Some, length}
use Rattle.ots_tree.specs.Wire.{Node}
use Rattle.ots_pending.specs.Grown.{ArePut}
use Rattle.ots_pending.specs.Parts.{IsFormOfPart}
use Rattle.ots_pending.proofs.completing.within.Given as goal

-- What is made is the canonical form of a part.
abbrev pub invariant-loop-made : goal.invariant-loop-made
invariant-loop-made l = record {
  part : (given : List (Option Node)) → ArePut l.pairs given l.ready.items → IsFormOfPart l.pairs given (Some l.proof.digest) l.form-inside.tokens.items l.made;
  within : l.made.next ≤ length l.form-inside.tokens.items;
}

-- The paths that are left.
abbrev pub decreases-loop-made : goal.decreases-loop-made
decreases-loop-made l = cond l.made.is_whole 0 (suc (length l.form-inside.tokens.items - l.made.next))
