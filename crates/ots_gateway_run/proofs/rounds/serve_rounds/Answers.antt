use Rattle.std.proofs.Common.{arith}
use Rattle.ots_base.specs.Cause.{Rose}
use Rattle.ots_gateway_run.specs.Rounds.{Moment, Outside}
use Rattle.ots_gateway_run.proofs.Counting.{within_more, within_same}
use Rattle.ots_gateway_run.proofs.Gone.{going_none}
use Rattle.ots_gateway_run.proofs.Stepping.{steps_none, steps_some}
use Rattle.ots_gateway_run.proofs.rounds.serve_rounds.Goals as goal

pub loop-init : goal.loop-init
loop-init g c =
    let o : Outside g.row.A.Denot g.row.A-Link.Denot g.row.T.Denot = record { coming = g.A.Accepter.coming; returned = g.A.Accepter.returned; accepted = g.A.Accepter.accepted; accept_faults = g.A.Accepter.faults; link_told = g.A.Link.Link.told; link_faults = g.A.Link.Link.faults; told = g.T.Dialer.told; dial_faults = g.T.Dialer.faults } in
    let first : Moment g.row.A.Denot g.row.T.Denot = record { accepter = c.args.accepter.now; dialer = c.args.dialer.now; nonces = record { left = g.N.Nonces.left c.args.nonces.now; faults = g.N.Nonces.faults c.args.nonces.now } } in
    record {
      can = tt;
      finite = tt;
      empty = c.requires.empty;
      room = c.requires.room;
      within = within_same c.args.rounds.now.until (g.A.Accepter.accepted c.args.accepter.now);
      going = going_none o c.args.rounds.now.calendars.now c.args.rounds.now.min c.args.rounds.now.round first (g.K.Sink.taken c.args.out.now) c.requires.count;
      sink = record { later = omega arith; same = g.met.K.Sink.same_refl c.args.out.now };
    }

pub loop-preserved : goal.loop-preserved
loop-preserved g c =
    let o : Outside g.row.A.Denot g.row.A-Link.Denot g.row.T.Denot = record { coming = g.A.Accepter.coming; returned = g.A.Accepter.returned; accepted = g.A.Accepter.accepted; accept_faults = g.A.Accepter.faults; link_told = g.A.Link.Link.told; link_faults = g.A.Link.Link.faults; told = g.T.Dialer.told; dial_faults = g.T.Dialer.faults } in
    let first : Moment g.row.A.Denot g.row.T.Denot = record { accepter = c.args.accepter.now; dialer = c.args.dialer.now; nonces = record { left = g.N.Nonces.left c.args.nonces.now; faults = g.N.Nonces.faults c.args.nonces.now } } in
    let new : Moment g.row.A.Denot g.row.T.Denot = record { accepter = c.serve_next.new.accepter; dialer = c.serve_next.new.dialer; nonces = record { left = g.N.Nonces.left c.serve_next.new.nonces; faults = g.N.Nonces.faults c.serve_next.new.nonces } } in
    let steps = c.serve_next.ensures.steps (g.K.Sink.faults c.args.out.now) c.loop.invariant.sink.later first (g.K.Sink.taken c.args.out.now) c.loop.invariant.going in
    record {
      can = tt;
      finite = tt;
      empty = c.serve_next.ensures.empty;
      room = let same = c.serve_next.ensures.room in let had = c.loop.invariant.room in omega (arith, same, had);
      within = within_more c.args.rounds.now.until (g.A.Accepter.accepted c.args.accepter.now) (g.A.Accepter.accepted c.loop.accepter) (g.A.Accepter.accepted c.serve_next.new.accepter) c.loop.invariant.within c.serve_next.ensures.within;
      going = steps_none o c.args.rounds.now.calendars.now c.args.rounds.now.min c.args.rounds.now.round c.args.rounds.now.round_some c.args.rounds.now.until (Rose (g.K.Sink.faults c.args.out.now) (g.K.Sink.faults c.serve_next.new.out)) (Rose (g.K.Sink.faults c.args.out.now) (g.K.Sink.faults c.serve_next.new.out)) (λ r. r) first (g.K.Sink.taken c.args.out.now) new (g.K.Sink.taken c.serve_next.new.out) c.serve_next.result steps c.in_default.not-Some;
      sink = record {
        later = let one = c.loop.invariant.sink.later in let two = c.serve_next.ensures.sink.later in omega (arith, one, two);
        same = g.met.K.Sink.same_trans _ _ _ c.loop.invariant.sink.same c.serve_next.ensures.sink.same;
      };
    }

pub returns-in-Some-serve_next-clause-within : goal.returns-in-Some-serve_next-clause-within
returns-in-Some-serve_next-clause-within g c =
    within_more c.args.rounds.now.until (g.A.Accepter.accepted c.args.accepter.now) (g.A.Accepter.accepted c.loop.accepter) (g.A.Accepter.accepted c.serve_next.new.accepter) c.loop.invariant.within c.serve_next.ensures.within

pub returns-in-Some-serve_next-clause-serves : goal.returns-in-Some-serve_next-clause-serves
returns-in-Some-serve_next-clause-serves g c =
    let o : Outside g.row.A.Denot g.row.A-Link.Denot g.row.T.Denot = record { coming = g.A.Accepter.coming; returned = g.A.Accepter.returned; accepted = g.A.Accepter.accepted; accept_faults = g.A.Accepter.faults; link_told = g.A.Link.Link.told; link_faults = g.A.Link.Link.faults; told = g.T.Dialer.told; dial_faults = g.T.Dialer.faults } in
    let first : Moment g.row.A.Denot g.row.T.Denot = record { accepter = c.args.accepter.now; dialer = c.args.dialer.now; nonces = record { left = g.N.Nonces.left c.args.nonces.now; faults = g.N.Nonces.faults c.args.nonces.now } } in
    let new : Moment g.row.A.Denot g.row.T.Denot = record { accepter = c.serve_next.new.accepter; dialer = c.serve_next.new.dialer; nonces = record { left = g.N.Nonces.left c.serve_next.new.nonces; faults = g.N.Nonces.faults c.serve_next.new.nonces } } in
    let steps = c.serve_next.ensures.steps (g.K.Sink.faults c.args.out.now) c.loop.invariant.sink.later first (g.K.Sink.taken c.args.out.now) c.loop.invariant.going in
    steps_some o c.args.rounds.now.calendars.now c.args.rounds.now.min c.args.rounds.now.round c.args.rounds.now.round_some c.args.rounds.now.until (Rose (g.K.Sink.faults c.args.out.now) (g.K.Sink.faults c.serve_next.new.out)) (Rose (g.K.Sink.faults c.args.out.now) (g.K.Sink.faults c.serve_next.new.out)) (λ r. r) first (g.K.Sink.taken c.args.out.now) new (g.K.Sink.taken c.serve_next.new.out) c.serve_next.result c.in-Some-serve_next.status steps c.in-Some-serve_next.is
