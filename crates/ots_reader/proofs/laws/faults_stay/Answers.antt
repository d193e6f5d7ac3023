use Rattle.ots_reader.proofs.Stays.{fault_stays}
use Rattle.ots_reader.proofs.laws.faults_stay.Goals as goal

pub returns : goal.returns
returns c = fault_stays
