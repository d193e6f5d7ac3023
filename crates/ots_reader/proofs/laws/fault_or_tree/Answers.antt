use Rattle.std.proofs.Common.{refl}
use Rattle.ots_reader.proofs.FaultOrTree.{fault_or_tree_lem}
use Rattle.ots_reader.proofs.OneFault.{never_both_lem}
use Rattle.ots_reader.proofs.laws.fault_or_tree.Goals as goal

pub returns-clause-either : goal.returns-clause-either
returns-clause-either c = fault_or_tree_lem

pub returns-clause-never_both : goal.returns-clause-never_both
returns-clause-never_both c = λ n k t rest f shape sound has. never_both_lem n k _ f t rest shape.depth has sound refl
