use Rattle.std.proofs.Common.{◌≢◌, ℕ, ◌<◌, length, get_or}
use Rattle.ots_tree.proofs.tree.last_item.Given as goal

-- No later number is 0.
abbrev pub invariant-loop-place : goal.invariant-loop-place
invariant-loop-place l = record {
  in_range : l.place < length l.depths;
  later : (k : ℕ) → l.place < k → k < length l.depths → get_or l.depths k 0 ≢ 0;
}

abbrev pub decreases-loop-place : goal.decreases-loop-place
decreases-loop-place l = l.place
