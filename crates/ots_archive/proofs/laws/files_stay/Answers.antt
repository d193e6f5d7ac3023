use Rattle.ots_archive.proofs.Commands.{run_stays}
use Rattle.ots_archive.proofs.laws.files_stay.Goals as goal

pub returns : goal.returns
returns g = run_stays
