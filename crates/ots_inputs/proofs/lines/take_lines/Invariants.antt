use Rattle.std.proofs.Common.{◌-◌, length}
use Rattle.ots_inputs.specs.LinesRead.{TakenTo}
use Rattle.ots_inputs.proofs.lines.take_lines.Given as goal

-- The lines up to here were taken.
abbrev pub invariant-loop-used : goal.invariant-loop-used
invariant-loop-used g l = TakenTo g.L.Line.is_item g.L.Line.MAX_LINES l.bytes l.fn.items.items l.items.items l.used

-- Each line has a byte.
abbrev pub decreases-loop-used : goal.decreases-loop-used
decreases-loop-used g l = length l.bytes - l.used
