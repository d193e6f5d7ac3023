use Rattle.ots_merkle.proofs.PathLaws.{path_leads}
use Rattle.ots_merkle.proofs.laws.path_leads_to_root.Goals as goal

pub returns : goal.returns
returns c = path_leads
