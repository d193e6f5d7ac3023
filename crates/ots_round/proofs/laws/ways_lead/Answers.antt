use Rattle.ots_merkle.proofs.PathLaws.{path_leads}
use Rattle.ots_round.proofs.Leading.{leads_in_round}
use Rattle.ots_round.proofs.laws.ways_lead.Goals as goal

pub returns : goal.returns
returns c = λ key second tickets i ticket. leads_in_round key second tickets i ticket path_leads
