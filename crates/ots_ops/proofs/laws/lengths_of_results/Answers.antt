use Rattle.ots_ops.proofs.AppliedLength.{length_of_applied, length_of_hashed}
use Rattle.ots_ops.proofs.laws.lengths_of_results.Goals as goal

pub returns-clause-digests : goal.returns-clause-digests
returns-clause-digests c = length_of_hashed

pub returns-clause-results : goal.returns-clause-results
returns-clause-results c = length_of_applied
