use Rattle.std.proofs.Common.{take}
use Rattle.ots_canon.specs.Places.{AreAfter}
use Rattle.ots_canon.specs.Chains.{shifted}
use Rattle.ots_canon.proofs.merging.items_after.Given as goal

abbrev pub invariant-loop-place : goal.invariant-loop-place
invariant-loop-place l = AreAfter l.tokens l.ends (take l.place-index (shifted l.steps l.run)) l.after.items
