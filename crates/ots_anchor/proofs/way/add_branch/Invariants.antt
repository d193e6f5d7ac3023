use Rattle.std.proofs.Common.{◌≡◌, ◌++◌, take}
use Rattle.ots_anchor.specs.Path.{climb, AreSteps}
use Rattle.ots_anchor.proofs.way.add_branch.Given as goal

abbrev pub invariant-loop-side : goal.invariant-loop-side
invariant-loop-side l = record {
  ops : l.ops ≡ l.initial.ops ++ climb (take l.side-index l.side-items);
  steps : AreSteps (take l.side-index l.side-items);
}
