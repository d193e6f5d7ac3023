use Rattle.ots_reader.proofs.FaultOrTree.{token_or_not}
use Rattle.ots_reader.proofs.laws.no_fault_at_a_token.Goals as goal

pub returns : goal.returns
returns c = token_or_not
