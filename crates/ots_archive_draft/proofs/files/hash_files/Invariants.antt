use Rattle.ots_archive_draft.proofs.Kept.{Hashed}
use Rattle.ots_arguments.specs.Values.{texts}
use Rattle.ots_archive_draft.proofs.files.hash_files.Given as goal

abbrev pub invariant-loop-name : goal.invariant-loop-name
invariant-loop-name g l = Hashed (texts l.names) l.name-index (g.W.World.told l.fn.world) (g.W.World.told l.world) l.digests.items
