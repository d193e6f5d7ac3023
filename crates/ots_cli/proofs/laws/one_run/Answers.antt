use Rattle.ots_cli.proofs.OneRun.{one_run}
use Rattle.ots_cli.proofs.laws.one_run.Goals as goal

pub returns : goal.returns
returns g c = λ words names replies bytes old new other last before now again later d e r s.
    one_run g.D.Dialer.told g.D.Dialer.faults g.N.Nonces.left g.N.Nonces.faults c.one_outcome.ensures names replies bytes old new other last before now again later r s words d e
