use Rattle.std.proofs.Common.{◌≡◌, drop}
use Rattle.ots_tree.specs.Sound.{length_after}
use Rattle.ots_draft.proofs.reading.length_after.Given as goal

-- The operations that are left lead on from the length so far.
abbrev pub invariant-loop-op : goal.invariant-loop-op
invariant-loop-op l = length_after (drop l.op-index l.ops) l.length ≡ length_after l.ops l.initial.length
