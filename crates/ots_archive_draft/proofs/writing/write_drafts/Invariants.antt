use Rattle.ots_archive_draft.proofs.Kept.{Written}
use Rattle.ots_archive_draft.specs.Writing.{read_batch}
use Rattle.ots_archive_draft.proofs.writing.write_drafts.Given as goal

abbrev pub invariant-loop-index : goal.invariant-loop-index
invariant-loop-index g l = Written (read_batch l.fn.batch) l.index (g.W.World.told l.fn.world) (g.W.World.told l.world) l.all_made
