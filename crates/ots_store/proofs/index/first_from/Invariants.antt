use Rattle.std.proofs.Common.{◌≡◌, ◌≤◌, ◌<◌, ◌-◌, ℕ, true, false, length, get_or}
use Rattle.std.specs.Ordering.{is_lt}
use Rattle.ots_store.specs.Places.{key_at, key_cmp}
use Rattle.ots_store.proofs.index.first_from.Given as goal

abbrev pub invariant-loop-low : goal.invariant-loop-low
invariant-loop-low l = record {
  ordered : l.low ≤ l.high;
  within : l.high ≤ length l.places;
  before : (j : ℕ) → j < l.low → is_lt (key_cmp (key_at l.all (get_or l.places j 0)) (l.commitment, l.place)) ≡ true;
  after : (j : ℕ) → l.high ≤ j → j < length l.places → is_lt (key_cmp (key_at l.all (get_or l.places j 0)) (l.commitment, l.place)) ≡ false;
}

abbrev pub decreases-loop-low : goal.decreases-loop-low
decreases-loop-low l = l.high - l.low
