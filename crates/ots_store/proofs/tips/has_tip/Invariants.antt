use Rattle.std.proofs.Common.{◌≤◌, ◌-◌, length, take, drop}
use Rattle.ots_store.specs.Order.{HasSpan}
use Rattle.ots_store.specs.Ranges.{TipsRiseFrom}
use Rattle.ots_store.proofs.tips.has_tip.Given as goal

abbrev pub invariant-loop-low : goal.invariant-loop-low
invariant-loop-low l = record {
  ordered : l.low ≤ l.high;
  within : l.high ≤ length l.tips;
  before : TipsRiseFrom 0 0 l.tips → HasSpan l.span.first l.span.count (take l.low l.tips) → ⊥;
  after : TipsRiseFrom 0 0 l.tips → HasSpan l.span.first l.span.count (drop l.high l.tips) → ⊥;
}

abbrev pub decreases-loop-low : goal.decreases-loop-low
decreases-loop-low l = l.high - l.low
