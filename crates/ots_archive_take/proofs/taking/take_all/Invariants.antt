use Rattle.ots_archive_take.proofs.Taken.{Taken}
use Rattle.ots_archive_take.specs.Taking.{read_job}
use Rattle.ots_archive_steps.specs.Entries.{entries_of}
use Rattle.ots_archive_take.proofs.taking.take_all.Given as goal

abbrev pub invariant-loop-index : goal.invariant-loop-index
invariant-loop-index g l = Taken (read_job l.fn.job) (entries_of l.fn.entries) l.index (g.W.World.told l.fn.world) (g.W.World.told l.world) l.status
