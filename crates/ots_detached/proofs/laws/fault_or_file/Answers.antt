use Rattle.std.proofs.Common.{refl}
use Rattle.ots_detached.proofs.FaultOrFile.{fault_or_file_lem}
use Rattle.ots_detached.proofs.Files.{never_both}
use Rattle.ots_detached.proofs.laws.fault_or_file.Goals as goal

pub returns-clause-either : goal.returns-clause-either
returns-clause-either c = fault_or_file_lem

pub returns-clause-never_both : goal.returns-clause-never_both
returns-clause-never_both c = λ h d t f has fault. never_both _ h d t f has refl fault
