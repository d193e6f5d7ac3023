use Rattle.std.proofs.Common.{sym, subst}
use Rattle.ots_address.specs.AddressList.{IsListOf}
use Rattle.ots_base.specs.Cause.{Rose}
use Rattle.ots_gateway_words.specs.Words.{read_as}
use Rattle.ots_gateway_run.specs.Rounds.{Moment, Outside}
use Rattle.ots_gateway_run.specs.Run.{calendars}
use Rattle.ots_gateway_run.proofs.Running.{bad_list}
use Rattle.ots_gateway_run.proofs.run.gather.Goals as goal

pub returns-in-Ok-clause-comes : goal.returns-in-Ok-clause-comes
returns-in-Ok-clause-comes g c =
    let made = c.gather_for.ensures.comes in
    (made.0, made.1, calendars c.deref.result.now (subst (IsListOf c.args.asked.now.calendars.now) (sym c.deref.ensures.value) c.in-Ok.ensures.ok) made.2, made.3)

pub returns-in-Err-clause-comes : goal.returns-in-Err-clause-comes
returns-in-Err-clause-comes g c =
    let o : Outside g.row.A.Denot g.row.A-Link.Denot g.row.T.Denot = record { coming = g.A.Accepter.coming; returned = g.A.Accepter.returned; accepted = g.A.Accepter.accepted; accept_faults = g.A.Accepter.faults; link_told = g.A.Link.Link.told; link_faults = g.A.Link.Link.faults; told = g.T.Dialer.told; dial_faults = g.T.Dialer.faults } in
    let old : Moment g.row.A.Denot g.row.T.Denot = record { accepter = c.args.accepter.now; dialer = c.args.dialer.now; nonces = record { left = g.N.Nonces.left c.args.nonces.now; faults = g.N.Nonces.faults c.args.nonces.now } } in
    bad_list o (read_as c.args.asked.now) (Rose (g.K.Sink.faults c.args.out.now) (g.K.Sink.faults c.args.out.now)) old (g.K.Sink.taken c.args.out.now) c.in-Err.error c.address_status.result c.in-Err.ensures.bad c.address_status.ensures
