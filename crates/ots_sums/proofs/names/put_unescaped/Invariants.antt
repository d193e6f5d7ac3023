use Rattle.std.proofs.Common.{◌-◌, length}
use Rattle.ots_sums.specs.inner.Parts.{Unescaped}
use Rattle.ots_sums.proofs.names.put_unescaped.Given as goal

-- The text up to here spells the bytes that were put.
abbrev pub invariant-loop-at : goal.invariant-loop-at
invariant-loop-at l = Unescaped l.text l.fn.names.items l.names.items l.at

abbrev pub decreases-loop-at : goal.decreases-loop-at
decreases-loop-at l = length l.text - l.at
