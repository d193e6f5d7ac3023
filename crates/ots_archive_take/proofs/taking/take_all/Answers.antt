use Rattle.ots_archive_steps.specs.Entries.{entries_of, entry_as}
use Rattle.ots_archive_take.proofs.Taken.{takes_ends, takes_next}
use Rattle.ots_archive_take.specs.Taking.{read_job}
use Rattle.ots_archive_take.proofs.taking.take_all.Goals as goal

pub returns-in-Err-clause-ends : goal.returns-in-Err-clause-ends
returns-in-Err-clause-ends g c =
    takes_ends (read_job c.args.job) (entries_of c.args.entries.now) c.loop-index.index (entry_as c.get.result) c.get.ensures _ _ _ _ c.loop-index.invariant _ c.in-Err.ensures

pub loop-index-preserved : goal.loop-index-preserved
loop-index-preserved g c = rw c.worse-status.ensures
    (takes_next (read_job c.args.job) (entries_of c.args.entries.now) c.loop-index.index (entry_as c.get.result) c.get.ensures _ _ _ _ c.loop-index.invariant _ c.in-Ok.ensures)
