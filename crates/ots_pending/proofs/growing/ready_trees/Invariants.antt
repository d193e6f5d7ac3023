use Rattle.std.proofs.Common.{take}
use Rattle.ots_pending.specs.Grown.{AreTrees}
use Rattle.ots_pending.proofs.Putting.{Ready}
use Rattle.ots_pending.proofs.growing.ready_trees.Given as goal

-- Those of the pairs before are ready.
abbrev pub invariant-loop-i : goal.invariant-loop-i
invariant-loop-i l = record {
  ready : Ready l.pairs l.trees l.ready.items l.i;
  trees : AreTrees (take l.i l.trees);
}
