use Rattle.ots_calendar_batch.proofs.Rounding.{round_printed}
use Rattle.ots_calendar_endings.proofs.Running.{refused_as}
use Rattle.ots_calendar_batch.proofs.round.put_round.Goals as goal

pub returns-in-Ok-clause-ends : goal.returns-in-Ok-clause-ends
returns-in-Ok-clause-ends g c = round_printed c.in-Ok.ensures.ends c.print_trees.ensures.printed

pub returns-in-Ok-clause-moments : goal.returns-in-Ok-clause-moments
returns-in-Ok-clause-moments g c = c.in-Ok.ensures.ends.moments

pub returns-in-Err-clause-ends : goal.returns-in-Err-clause-ends
returns-in-Err-clause-ends g c = round_printed c.in-Err.ensures.ends (refused_as _ _ _ _ _ _ c.status.ensures c.refuse.ensures.printed)

pub returns-in-Err-clause-moments : goal.returns-in-Err-clause-moments
returns-in-Err-clause-moments g c = c.in-Err.ensures.ends.moments
