use Rattle.ots_store.proofs.Storing.{accepted}
use Rattle.ots_store.proofs.store.Store.open.Goals as goal

pub returns-in-Err-clause-accepts : goal.returns-in-Err-clause-accepts
returns-in-Err-clause-accepts g c are = accepted c.in-Err.why c.args.journal.entries are c.in-Err.ensures.bad
