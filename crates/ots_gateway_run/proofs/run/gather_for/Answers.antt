use Rattle.std.proofs.Common.{◌∙◌, ℕ, [], ap, arith, refl, inl}
use Rattle.ots_base.specs.Cause.{Rose}
use Rattle.ots_outside.specs.Streams.{Takes-nothing}
use Rattle.ots_gateway_words.specs.Words.{read_as}
use Rattle.ots_gateway_words.specs.declared.status.GateStatus.TheVariants.{OutOfMemory}
use Rattle.ots_gateway_run.specs.Rounds.{Moment, Outside}
use Rattle.ots_gateway_run.specs.Run.{ended, no_room, until_from}
use Rattle.ots_gateway_run.proofs.Running.{listened, not_listened, rounds_served}
use Rattle.ots_gateway_run.proofs.run.gather_for.Goals as goal

pub returns-in_default-clause-comes : goal.returns-in_default-clause-comes
returns-in_default-clause-comes g c = (ended OutOfMemory [], refl, no_room refl refl, inl (Takes-nothing (g.K.Sink.taken c.args.out.now)))

pub returns-in-Err-clause-comes : goal.returns-in-Err-clause-comes
returns-in-Err-clause-comes g c =
    let o : Outside g.row.A.Denot g.row.A-Link.Denot g.row.T.Denot = record { coming = g.A.Accepter.coming; returned = g.A.Accepter.returned; accepted = g.A.Accepter.accepted; accept_faults = g.A.Accepter.faults; link_told = g.A.Link.Link.told; link_faults = g.A.Link.Link.faults; told = g.T.Dialer.told; dial_faults = g.T.Dialer.faults } in
    let old : Moment g.row.A.Denot g.row.T.Denot = record { accepter = c.args.accepter.now; dialer = c.args.dialer.now; nonces = record { left = g.N.Nonces.left c.args.nonces.now; faults = g.N.Nonces.faults c.args.nonces.now } } in
    let passes = listened o c.args.accepter.now c.listen.new.accepter (omega (arith, c.accepted.ensures, c.accepted.type_inv)) c.listen.ensures.coming c.listen.ensures.returned c.listen.ensures.accepted c.listen.ensures.later in
    not_listened o (read_as c.args.asked.now) c.args.calendars.now old (g.K.Sink.taken c.args.out.now) (g.K.Sink.taken c.listen.new.out)
    (Rose (g.K.Sink.faults c.args.out.now) (g.K.Sink.faults c.listen.new.out)) c.listen.new.accepter c.in-Err.status passes c.in-Err.ensures.listens

pub returns-in-Ok-listen-clause-comes : goal.returns-in-Ok-listen-clause-comes
returns-in-Ok-listen-clause-comes g c =
    let o : Outside g.row.A.Denot g.row.A-Link.Denot g.row.T.Denot = record { coming = g.A.Accepter.coming; returned = g.A.Accepter.returned; accepted = g.A.Accepter.accepted; accept_faults = g.A.Accepter.faults; link_told = g.A.Link.Link.told; link_faults = g.A.Link.Link.faults; told = g.T.Dialer.told; dial_faults = g.T.Dialer.faults } in
    let old : Moment g.row.A.Denot g.row.T.Denot = record { accepter = c.args.accepter.now; dialer = c.args.dialer.now; nonces = record { left = g.N.Nonces.left c.args.nonces.now; faults = g.N.Nonces.faults c.args.nonces.now } } in
    let new : Moment g.row.A.Denot g.row.T.Denot = record { accepter = c.serve_rounds-status.new.accepter; dialer = c.serve_rounds-status.new.dialer; nonces = record { left = g.N.Nonces.left c.serve_rounds-status.new.nonces; faults = g.N.Nonces.faults c.serve_rounds-status.new.nonces } } in
    let passes = listened o c.args.accepter.now c.listen.new.accepter (omega (arith, c.accepted.ensures, c.accepted.type_inv)) c.listen.ensures.coming c.listen.ensures.returned c.listen.ensures.accepted c.listen.ensures.later in
    let made = c.serve_rounds-status.ensures.serves in
    rounds_served o (read_as c.args.asked.now) c.args.calendars.now old (g.K.Sink.taken c.args.out.now) (g.K.Sink.taken c.listen.new.out)
    (Rose (g.K.Sink.faults c.listen.new.out) (g.K.Sink.faults c.serve_rounds-status.new.out)) (Rose (g.K.Sink.faults c.args.out.now) (g.K.Sink.faults c.serve_rounds-status.new.out))
    (λ rose. let later = c.listen.ensures.sink.later in omega (arith, rose, later)) c.listen.new.accepter new (g.K.Sink.taken c.serve_rounds-status.new.out) c.until_from.result
    c.serve_rounds-status.result made.0 passes c.in-Ok-listen.ensures.listens made.1
    (c.until_from.ensures ∙ ap (λ (n : ℕ). until_from n c.args.asked.now.accept) c.accepted.ensures) made.2 c.serve_rounds-status.ensures.within c.listen.ensures.accepted made.3
