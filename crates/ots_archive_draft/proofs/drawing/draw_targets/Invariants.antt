use Rattle.ots_archive_draft.proofs.Kept.{Drawn}
use Rattle.ots_archive_draft.proofs.drawing.draw_targets.Given as goal

abbrev pub invariant-loop-digest : goal.invariant-loop-digest
invariant-loop-digest g l = Drawn l.digests l.digest-index (g.W.World.told l.fn.world) (g.W.World.told l.world) l.targets.items
