use Rattle.std.proofs.Common.{◌≡◌, ◌+◌, ◌≤◌, length, take}
use Rattle.ots_anchor.specs.Path.{hashed}
use Rattle.ots_kept_trees.proofs.trees.root_in.Given as goal

abbrev pub invariant-loop-commitment : goal.invariant-loop-commitment
invariant-loop-commitment l = record {
  leaves : l.peaks.leaves ≡ hashed (take l.commitment-index l.commitments);
  room : length l.commitments ≤ l.peaks.spare + l.commitment-index;
}
