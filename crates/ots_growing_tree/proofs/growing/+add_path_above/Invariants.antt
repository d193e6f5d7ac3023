use Rattle.std.proofs.Common.{length}
use Rattle.ots_growing_tree.proofs.growing.+add_path_above.Given as goal

-- Each turn leaves one level.
abbrev pub decreases-add_path_above : goal.decreases-add_path_above
decreases-add_path_above l = length l.above.now
