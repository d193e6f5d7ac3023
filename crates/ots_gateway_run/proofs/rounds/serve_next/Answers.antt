use Rattle.std.proofs.Common.{rules, ◌≡◌, List, [], arith, length, subst}
use Rattle.ots_base.specs.Cause.{Rose}
use Rattle.ots_gateway_run.specs.Rounds.{Moment, Outside}
use Rattle.ots_gateway_run.proofs.Counting.{no_links}
use Rattle.ots_gateway_run.proofs.Gone.{Accepts}
use Rattle.ots_gateway_run.proofs.Stepping.{step_empty, step_failed, step_printed}
use Rattle.ots_gateway_run.proofs.rounds.serve_next.Goals as goal

pub returns-then-is_empty-clause-steps : goal.returns-then-is_empty-clause-steps
returns-then-is_empty-clause-steps g c = λ start below first before going.
    let o : Outside g.row.A.Denot g.row.A-Link.Denot g.row.T.Denot = record { coming = g.A.Accepter.coming; returned = g.A.Accepter.returned; accepted = g.A.Accepter.accepted; accept_faults = g.A.Accepter.faults; link_told = g.A.Link.Link.told; link_faults = g.A.Link.Link.faults; told = g.T.Dialer.told; dial_faults = g.T.Dialer.faults } in
    let now : Moment g.row.A.Denot g.row.T.Denot = record { accepter = c.args.accepter.now; dialer = c.args.dialer.now; nonces = record { left = g.N.Nonces.left c.args.nonces.now; faults = g.N.Nonces.faults c.args.nonces.now } } in
    let took = c.accept_links-accepting.ensures in
    let accepts : Accepts o c.args.rounds.now.calendars.now c.args.rounds.now.min c.args.rounds.now.round c.accept_links-accepting.new.links.items c.args.accepter.now c.accept_links-accepting.new.accepter =
    record { comes = took.comes; fresh = took.fresh; returned = took.returned; count = took.count; later = took.later } in
    let none : c.accept_links-accepting.new.links.items ≡ [] = no_links c.accept_links-accepting.new.links.items (search rules) in
    rw c.status_of.ensures
    (step_empty o c.args.rounds.now.calendars.now c.args.rounds.now.min c.args.rounds.now.round c.args.rounds.now.round_some c.args.rounds.now.until (Rose start (g.K.Sink.faults c.args.out.now)) (Rose start (g.K.Sink.faults c.args.out.now)) (λ r. r) first before
    c.accept_links-accepting.result now (g.K.Sink.taken c.args.out.now) c.accept_links-accepting.new.accepter going
    (subst (λ (xs : List g.row.A-Link.Denot). Accepts o c.args.rounds.now.calendars.now c.args.rounds.now.min c.args.rounds.now.round xs c.args.accepter.now c.accept_links-accepting.new.accepter) none accepts)
    (λ is. subst (λ (xs : List g.row.A-Link.Denot). length xs ≡ c.args.rounds.now.round) none (took.full is)) took.over took.fault)

pub returns-in-Ok-clause-steps : goal.returns-in-Ok-clause-steps
returns-in-Ok-clause-steps g c = λ start below first before going.
    let o : Outside g.row.A.Denot g.row.A-Link.Denot g.row.T.Denot = record { coming = g.A.Accepter.coming; returned = g.A.Accepter.returned; accepted = g.A.Accepter.accepted; accept_faults = g.A.Accepter.faults; link_told = g.A.Link.Link.told; link_faults = g.A.Link.Link.faults; told = g.T.Dialer.told; dial_faults = g.T.Dialer.faults } in
    let now : Moment g.row.A.Denot g.row.T.Denot = record { accepter = c.args.accepter.now; dialer = c.args.dialer.now; nonces = record { left = g.N.Nonces.left c.args.nonces.now; faults = g.N.Nonces.faults c.args.nonces.now } } in
    let took = c.accept_links-accepting.ensures in
    let accepts : Accepts o c.args.rounds.now.calendars.now c.args.rounds.now.min c.args.rounds.now.round c.accept_links-accepting.new.links.items c.args.accepter.now c.accept_links-accepting.new.accepter =
    record { comes = took.comes; fresh = took.fresh; returned = took.returned; count = took.count; later = took.later } in
    let new : Moment g.row.A.Denot g.row.T.Denot = record { accepter = c.serve_links.new.accepter; dialer = c.serve_links.new.dialer; nonces = record { left = g.N.Nonces.left c.serve_links.new.nonces; faults = g.N.Nonces.faults c.serve_links.new.nonces } } in
    rw c.status_of-in-Ok.ensures
    (step_printed o c.args.rounds.now.calendars.now c.args.rounds.now.min c.args.rounds.now.round c.args.rounds.now.round_some c.args.rounds.now.until (Rose (g.K.Sink.faults c.args.out.now) (g.K.Sink.faults c.serve_links.new.out)) (Rose start (g.K.Sink.faults c.serve_links.new.out))
    (λ rose. omega (arith, rose, below)) first before now new c.accept_links-accepting.new.accepter (g.K.Sink.taken c.args.out.now) (g.K.Sink.taken c.serve_links.new.out)
    c.accept_links-accepting.new.links.items going accepts (search rules) took.few
    c.serve_links.ensures.coming c.serve_links.ensures.accepted c.serve_links.ensures.faults c.accept_links-accepting.result c.serve_links.result c.in-Ok.field-0
    c.serve_links.ensures.serves c.in-Ok.is took.full took.over took.fault)

pub returns-in-Err-clause-steps : goal.returns-in-Err-clause-steps
returns-in-Err-clause-steps g c = λ start below first before going.
    let o : Outside g.row.A.Denot g.row.A-Link.Denot g.row.T.Denot = record { coming = g.A.Accepter.coming; returned = g.A.Accepter.returned; accepted = g.A.Accepter.accepted; accept_faults = g.A.Accepter.faults; link_told = g.A.Link.Link.told; link_faults = g.A.Link.Link.faults; told = g.T.Dialer.told; dial_faults = g.T.Dialer.faults } in
    let now : Moment g.row.A.Denot g.row.T.Denot = record { accepter = c.args.accepter.now; dialer = c.args.dialer.now; nonces = record { left = g.N.Nonces.left c.args.nonces.now; faults = g.N.Nonces.faults c.args.nonces.now } } in
    let took = c.accept_links-accepting.ensures in
    let accepts : Accepts o c.args.rounds.now.calendars.now c.args.rounds.now.min c.args.rounds.now.round c.accept_links-accepting.new.links.items c.args.accepter.now c.accept_links-accepting.new.accepter =
    record { comes = took.comes; fresh = took.fresh; returned = took.returned; count = took.count; later = took.later } in
    let new : Moment g.row.A.Denot g.row.T.Denot = record { accepter = c.serve_links.new.accepter; dialer = c.serve_links.new.dialer; nonces = record { left = g.N.Nonces.left c.serve_links.new.nonces; faults = g.N.Nonces.faults c.serve_links.new.nonces } } in
    step_failed o c.args.rounds.now.calendars.now c.args.rounds.now.min c.args.rounds.now.round c.args.rounds.now.round_some c.args.rounds.now.until (Rose (g.K.Sink.faults c.args.out.now) (g.K.Sink.faults c.serve_links.new.out)) (Rose start (g.K.Sink.faults c.serve_links.new.out))
    (λ rose. omega (arith, rose, below)) first before now new c.accept_links-accepting.new.accepter (g.K.Sink.taken c.args.out.now) (g.K.Sink.taken c.serve_links.new.out)
    c.accept_links-accepting.new.links.items going accepts (search rules) took.few
    c.serve_links.ensures.coming c.serve_links.ensures.accepted c.serve_links.ensures.faults c.serve_links.result c.in-Err.status
    c.serve_links.ensures.serves c.in-Err.is
