use Rattle.ots_detached.proofs.Files as files
use Rattle.ots_detached.proofs.laws.one_fault.Goals as goal

pub returns : goal.returns
returns c = files.one_fault
