use Rattle.ots_archive_steps.proofs.Ending.{ends_next}
use Rattle.ots_archive_steps.specs.Entries.{entries_of}
use Rattle.ots_archive_take.specs.Counting.{TellsCounts}
use Rattle.ots_archive_take.specs.Takes.{TakesToEnd}
use Rattle.ots_archive_take.specs.Taking.{read_job}
use Rattle.ots_archive_take.proofs.command.take_told.Goals as goal

pub returns-in-Ok : goal.returns-in-Ok
returns-in-Ok g c = ends_next (TellsCounts c.args.job.replies.now) (λ told. TakesToEnd (read_job c.args.job) (entries_of c.args.entries.now)) _ _ _ tt _ c.in-Ok.ensures c.take_to_end.ensures
