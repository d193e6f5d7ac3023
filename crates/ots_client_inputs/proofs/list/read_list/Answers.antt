use Rattle.std.proofs.Common.{refl}
use Rattle.ots_client_inputs.proofs.Reading.{list_refused}
use Rattle.ots_client_inputs.proofs.list.read_list.Goals as goal

pub returns-in-Err : goal.returns-in-Err
returns-in-Err c = record { name = refl; why = rw c.refused_list.ensures (list_refused c.args.list.now c.in-Err.error c.in-Err.ensures.bad) }
