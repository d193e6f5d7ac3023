use Rattle.std.proofs.Common.{refl}
use Rattle.ots_inputs.proofs.Meant.{means_given, means_refused}
use Rattle.ots_client_inputs.proofs.proof.read_proof.Goals as goal

pub returns-in-Ok : goal.returns-in-Ok
returns-in-Ok g c = means_given c.read_file-read.result c.in-Ok.proof c.read_file-read.ensures c.in-Ok.ensures

pub returns-in-Err : goal.returns-in-Err
returns-in-Err g c = (refl, means_refused c.read_file-read.result c.in-Err.why c.read_file-read.ensures c.in-Err.ensures)
