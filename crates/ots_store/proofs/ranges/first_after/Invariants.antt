use Rattle.std.proofs.Common.{◌≤◌, ◌-◌, length, take, drop}
use Rattle.std.specs.List.{AllByRecursion}
use Rattle.ots_store.specs.Ranges.{EndsBy, BeginsAfter}
use Rattle.ots_store.proofs.ranges.first_after.Given as goal

abbrev pub invariant-loop-low : goal.invariant-loop-low
invariant-loop-low l = record {
  ordered : l.low ≤ l.high;
  within : l.high ≤ length l.anchors;
  before : AllByRecursion (EndsBy l.i) (take l.low l.anchors);
  after : BeginsAfter l.i (drop l.high l.anchors);
}

abbrev pub decreases-loop-low : goal.decreases-loop-low
decreases-loop-low l = l.high - l.low
