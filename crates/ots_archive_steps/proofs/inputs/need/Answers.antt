use Rattle.std.proofs.Common.{sym}
use Rattle.ots_archive_steps.proofs.inputs.need.Goals as goal

pub returns-in-Err : goal.returns-in-Err
returns-in-Err g c = (_, _, c.in-Err.ensures, rw (sym c.as_bytes.ensures.value) c.refuse.ensures)
