use Rattle.std.proofs.Common.{◌≡◌, ◌≤◌, ◌+◌, length}
use Rattle.ots_store.specs.Places.{Are, IsParted}
use Rattle.ots_store.proofs.index.merge.Given as goal

abbrev pub invariant-loop-left : goal.invariant-loop-left
invariant-loop-left l = record {
  count : length l.places ≡ length l.fn.places;
  there : l.high + l.left ≤ length l.places;
  are : Are (length l.fn.places) l.places;
  parted : IsParted l.high l.left l.places l.all;
}

abbrev pub decreases-loop-left : goal.decreases-loop-left
decreases-loop-left l = l.left
