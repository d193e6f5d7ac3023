use Rattle.std.proofs.Common.{take}
use Rattle.ots_wanted.specs.inner.Asking.{TakesPairs}
use Rattle.ots_wanted.proofs.wanting.add_pairs.Given as goal

abbrev pub invariant-loop-i : goal.invariant-loop-i
invariant-loop-i l = TakesPairs l.fn.set l.set l.kind (take l.i l.pairs) l.skipped
