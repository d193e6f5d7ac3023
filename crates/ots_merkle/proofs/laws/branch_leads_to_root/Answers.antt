use Rattle.ots_merkle.proofs.Blocks.{branch_leads}
use Rattle.ots_merkle.proofs.laws.branch_leads_to_root.Goals as goal

pub returns : goal.returns
returns c = branch_leads
