use Rattle.std.proofs.Common.{refl}
use Rattle.ots_gateway.proofs.Lawful.{asked_fit}
use Rattle.ots_gateway.specs.Round.{below}
use Rattle.ots_gateway.proofs.laws.replies_fit.Goals as goal

pub returns : goal.returns
returns g c = λ calendars least ls over old new outcomes node asks.
    asked_fit g.T.Dialer.told g.T.Dialer.faults calendars least ls over old new outcomes node (below over node) refl asks
