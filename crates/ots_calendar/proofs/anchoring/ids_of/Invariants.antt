use Rattle.std.proofs.Common.{◌≡◌, take}
use Rattle.ots_block.specs.Block.{txids}
use Rattle.ots_calendar.proofs.anchoring.ids_of.Given as goal

abbrev pub invariant-loop-i : goal.invariant-loop-i
invariant-loop-i l = l.ids.items ≡ take l.i (txids l.block)
