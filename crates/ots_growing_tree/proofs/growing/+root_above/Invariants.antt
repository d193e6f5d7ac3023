use Rattle.std.proofs.Common.{length}
use Rattle.ots_growing_tree.proofs.growing.+root_above.Given as goal

-- Each turn leaves one level.
abbrev pub decreases-root_above : goal.decreases-root_above
decreases-root_above l = length l.above.now
