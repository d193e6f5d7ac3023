use Rattle.ots_reader.proofs.OneFault.{one_fault_lem}
use Rattle.ots_reader.proofs.TreeReasons.{tree_reason}
use Rattle.ots_reader.proofs.laws.one_fault.Goals as goal

pub returns-clause-one : goal.returns-clause-one
returns-clause-one c = one_fault_lem

pub returns-clause-reason : goal.returns-clause-reason
returns-clause-reason c = tree_reason
