use Rattle.std.proofs.Common.{◌≡◌, take}
use Rattle.std.specs.List.{filter}
use Rattle.ots_calendar.specs.Anchors.{reaches_past}
use Rattle.ots_calendar.proofs.anchoring.open_tips.Given as goal

abbrev pub invariant-loop-tip : goal.invariant-loop-tip
invariant-loop-tip g l = l.tips.items ≡ filter (reaches_past l.covered) (take l.tip-index l.tip-items)
