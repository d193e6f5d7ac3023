use Rattle.ots_block.proofs.OneAnswer.{block_or_fault_lem, never_both_lem}
use Rattle.ots_block.proofs.laws.block_or_fault.Goals as goal

pub returns-clause-either : goal.returns-clause-either
returns-clause-either c = block_or_fault_lem

pub returns-clause-never_both : goal.returns-clause-never_both
returns-clause-never_both c = never_both_lem
