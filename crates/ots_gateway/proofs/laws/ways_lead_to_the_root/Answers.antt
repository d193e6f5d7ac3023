use Rattle.ots_gateway.proofs.Lawful.{leads_to_root}
use Rattle.ots_gateway.proofs.laws.ways_lead_to_the_root.Goals as goal

pub returns : goal.returns
returns c = leads_to_root
