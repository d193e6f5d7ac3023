use Rattle.std.proofs.Common.{◌≡◌, take}
use Rattle.ots_calendar.specs.Anchors.{roots}
use Rattle.ots_calendar.proofs.anchoring.roots_of.Given as goal

abbrev pub invariant-loop-tip : goal.invariant-loop-tip
invariant-loop-tip l = l.roots.items ≡ take l.tip-index (roots l.tips)
