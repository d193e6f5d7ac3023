use Rattle.ots_draft.proofs.OneDraft.{one_operations, one_taken}
use Rattle.ots_draft.proofs.laws.one_draft.Goals as goal

pub returns-clause-operations : goal.returns-clause-operations
returns-clause-operations c = one_operations

pub returns-clause-taken : goal.returns-clause-taken
returns-clause-taken c = one_taken
