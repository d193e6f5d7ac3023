use Rattle.ots_cli.proofs.OneHearing.{heard}
use Rattle.ots_cli.proofs.laws.one_hearing.Goals as goal

pub returns : goal.returns
returns g c = λ questions old new os ps sent replies shapes was were quiet f h.
    heard g.D.Dialer.told g.D.Dialer.faults c.one_outcome.ensures questions old new os ps sent replies shapes was were quiet f h
