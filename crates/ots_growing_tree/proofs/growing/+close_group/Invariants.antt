use Rattle.std.proofs.Common.{length}
use Rattle.ots_growing_tree.proofs.growing.+close_group.Given as goal

-- Each turn leaves one level.
abbrev pub decreases-close_group : goal.decreases-close_group
decreases-close_group l = length l.above.now
