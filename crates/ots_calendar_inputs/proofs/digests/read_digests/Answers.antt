use Rattle.std.proofs.Common.{refl}
use Rattle.ots_calendar_inputs.proofs.Digesting.{told_as}
use Rattle.ots_calendar_inputs.proofs.digests.read_digests.Goals as goal

pub returns-in-Err : goal.returns-in-Err
returns-in-Err g c = (refl, told_as c.in-Err.error _ c.as_status.ensures c.in-Err.ensures)
