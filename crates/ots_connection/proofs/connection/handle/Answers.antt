use Rattle.std.proofs.Common.{[], refl, ap}
use Rattle.std.specs.Prelude.{Ok}
use Rattle.ots_connection.proofs.Held.{no_hold}
use Rattle.ots_connection.proofs.connection.handle.Goals as goal

pub returns-in-Refused-clause-handles : goal.returns-in-Refused-clause-handles
returns-in-Refused-clause-handles g c = rw c.in-Refused.is (record { rows = []; holds = no_hold c.args.pass.now c.requires.free; does = (refl, refl, ap Ok c.refusal.ensures.due) })
