use Rattle.ots_gateway.proofs.Lawful.{one_asked}
use Rattle.ots_gateway.proofs.laws.one_round.Goals as goal

pub returns : goal.returns
returns g c = one_asked g.T.Dialer.told g.T.Dialer.faults
