use Rattle.ots_calendar_inputs.proofs.Addressed.{none_refused}
use Rattle.ots_calendar_inputs.proofs.address.read_uri.Goals as goal

pub returns-in-Err : goal.returns-in-Err
returns-in-Err c = rw c.refusal.ensures (none_refused c.args.word.now c.in-Err.error c.in-Err.ensures.bad)
