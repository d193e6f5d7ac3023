use Rattle.std.proofs.Common.{◌≡◌}
use Rattle.ots_archive_draft.proofs.Kept.{Named}
use Rattle.ots_archive_draft.proofs.files.names_of_lines.Given as goal

abbrev pub invariant-loop-index : goal.invariant-loop-index
invariant-loop-index g l = Named l.fn.sums l.index l.names.items × (g.W.World.told l.world ≡ g.W.World.told l.fn.world)
