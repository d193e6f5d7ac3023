use Rattle.std.proofs.Common.{length, ◌-◌, ◌≤◌}
use Rattle.std.specs.List.Sorted.{IsSortedWithin}
use Rattle.ots_canon.specs.Frames.{comes_before}
use Rattle.ots_canon.proofs.merging.are_in_order.Given as goal

-- The items up to here are in order.
abbrev pub invariant-loop-at : goal.invariant-loop-at
invariant-loop-at l = record {
  some : 1 ≤ l.at;
  sorted : IsSortedWithin (comes_before l.tokens) l.places 0 l.at;
}

abbrev pub decreases-loop-at : goal.decreases-loop-at
decreases-loop-at l = length l.places - l.at
