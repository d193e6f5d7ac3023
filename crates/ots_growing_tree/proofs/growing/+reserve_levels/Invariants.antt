use Rattle.std.proofs.Common.{length}
use Rattle.ots_growing_tree.proofs.growing.+reserve_levels.Given as goal

-- Each turn leaves one level.
abbrev pub decreases-reserve_levels : goal.decreases-reserve_levels
decreases-reserve_levels l = length l.levels.now
