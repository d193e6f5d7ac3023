use Rattle.std.proofs.Common.{arith, refl}
use Rattle.ots_mirror.proofs.Ending.{ends_along, ends_behind, ends_current, ends_keeping, ends_stopped, ends_unprinted, owner_at, rose_later, round_at, stopped_along, stopped_keeping, stops_at}
use Rattle.ots_mirror.proofs.Making.{reached_more, reached_none}
use Rattle.ots_mirror.proofs.rounds.make_rounds.Goals as goal

pub loop-init : goal.loop-init
loop-init g c = record {
  reached = reached_none g.T.Dialer.told g.T.Dialer.faults g.D.Disk.clock g.D.Disk.images g.D.Disk.images_since c.args.address.now c.args.store.now.journal.limit g.met.D.Disk.only_now _ c.args.dialer.now c.args.store.now.journal _
      (record { entries = refl; gate = refl; limit_is = refl; sure = c.requires.sure; kept = c.requires.stands });
  known = c.requires.known;
  later = omega arith;
  sink = record { later = omega arith; same = g.met.K.Sink.same_refl c.args.out.now };
}

pub returns-in-Err-print_round-clause-made : goal.returns-in-Err-print_round-clause-made
returns-in-Err-print_round-clause-made g c =
    let r = c.loop.invariant.reached in
    let made = c.in-Ok.ensures.made in
    ends_unprinted _ _ _ _ _ _ _ _ _ _ _ _ _ _ _ r c.args.rounds _ _ c.loop-test.true _ c.in-Ok.outcome made.0
    (round_at _ _ _ _ _ _ _ _ _ _ c.loop.invariant.known r.holds.entries made.1) _ made.2 _
    (rose_later _ _ _ c.loop.invariant.sink.later c.in-Err-print_round.ensures.printed.0) c.in-Err-print_round.ensures.printed.1

pub returns-in-Err-print_round-clause-keeps : goal.returns-in-Err-print_round-clause-keeps
returns-in-Err-print_round-clause-keeps g c =
    let r = c.loop.invariant.reached in
    let made = c.in-Ok.ensures.made in
    ends_keeping _ _ _ _ _ _ _ _ _ _ _ _ _ _ _ r c.args.rounds (Unit {0}) (Unit {0}) c.loop-test.true _ c.in-Ok.outcome made.0
    (round_at _ _ _ _ _ _ _ _ _ _ c.loop.invariant.known r.holds.entries made.1) _ made.2 (g.K.Sink.taken c.loop.out)

pub returns-in-Err-print_round-clause-moments : goal.returns-in-Err-print_round-clause-moments
returns-in-Err-print_round-clause-moments g c all owner =
    let r = c.loop.invariant.reached in
    let made = c.in-Ok.ensures.made in
    ends_along _ _ _ _ _ _ _ _ _ _ _ _ _ _ _ r c.args.rounds (Unit {0}) (Unit {0}) c.loop-test.true _ c.in-Ok.outcome made.0
    (round_at _ _ _ _ _ _ _ _ _ _ c.loop.invariant.known r.holds.entries made.1) _ made.2 (g.K.Sink.taken c.loop.out)
    all (owner_at all _ _ _ c.requires.known owner)

pub returns-in-Current-clause-made : goal.returns-in-Current-clause-made
returns-in-Current-clause-made g c =
    let r = c.loop.invariant.reached in
    let made = c.in-Ok.ensures.made in
    ends_current _ _ _ _ _ _ _ _ _ _ _ _ _ _ _ r c.args.rounds _ _ c.loop-test.true _ c.in-Ok.outcome made.0
    (round_at _ _ _ _ _ _ _ _ _ _ c.loop.invariant.known r.holds.entries made.1) _ made.2 _
    c.in-Current.is c.in_default.ensures.printed

pub returns-in-Current-clause-keeps : goal.returns-in-Current-clause-keeps
returns-in-Current-clause-keeps g c =
    let r = c.loop.invariant.reached in
    let made = c.in-Ok.ensures.made in
    ends_keeping _ _ _ _ _ _ _ _ _ _ _ _ _ _ _ r c.args.rounds (Unit {0}) (Unit {0}) c.loop-test.true _ c.in-Ok.outcome made.0
    (round_at _ _ _ _ _ _ _ _ _ _ c.loop.invariant.known r.holds.entries made.1) _ made.2 (g.K.Sink.taken c.loop.out)

pub returns-in-Current-clause-moments : goal.returns-in-Current-clause-moments
returns-in-Current-clause-moments g c all owner =
    let r = c.loop.invariant.reached in
    let made = c.in-Ok.ensures.made in
    ends_along _ _ _ _ _ _ _ _ _ _ _ _ _ _ _ r c.args.rounds (Unit {0}) (Unit {0}) c.loop-test.true _ c.in-Ok.outcome made.0
    (round_at _ _ _ _ _ _ _ _ _ _ c.loop.invariant.known r.holds.entries made.1) _ made.2 (g.K.Sink.taken c.loop.out)
    all (owner_at all _ _ _ c.requires.known owner)

pub returns-in-Err-clause-made : goal.returns-in-Err-clause-made
returns-in-Err-clause-made g c =
    let r = c.loop.invariant.reached in
    ends_stopped _ _ _ _ _ _ _ _ _ _ _ _ _ _ _ r c.args.rounds _ _ c.loop-test.true g.met.D.Disk.counts_now _ _ c.in-Err.why
    (stops_at _ _ _ _ _ _ _ _ _ _ _ _ _ _ _ c.loop.invariant.known r.holds.entries (rose_later _ _ _ c.loop.invariant.later) c.in-Err.ensures.made)

pub returns-in-Err-clause-keeps : goal.returns-in-Err-clause-keeps
returns-in-Err-clause-keeps g c =
    let r = c.loop.invariant.reached in
    stopped_keeping _ _ _ _ _ _ _ _ _ _ _ _ _ _ _ r c.args.rounds _ (Unit {0}) c.loop-test.true g.met.D.Disk.counts_now _ _ c.in-Err.why
    (stops_at _ _ _ _ _ _ _ _ _ _ _ _ _ _ _ c.loop.invariant.known r.holds.entries (rose_later _ _ _ c.loop.invariant.later) c.in-Err.ensures.made)

pub returns-in-Err-clause-moments : goal.returns-in-Err-clause-moments
returns-in-Err-clause-moments g c all owner =
    let r = c.loop.invariant.reached in
    stopped_along _ _ _ _ _ _ _ _ _ _ _ _ _ _ _ r c.args.rounds _ (Unit {0}) c.loop-test.true g.met.D.Disk.counts_now _ _ c.in-Err.why
    (stops_at _ _ _ _ _ _ _ _ _ _ _ _ _ _ _ c.loop.invariant.known r.holds.entries (rose_later _ _ _ c.loop.invariant.later) c.in-Err.ensures.made)
    all (owner_at all _ _ _ c.requires.known owner)

pub loop-preserved : goal.loop-preserved
loop-preserved g c =
    let r = c.loop.invariant.reached in
    let made = c.in-Ok.ensures.made in
    record {
      reached = reached_more _ _ _ _ _ _ _ _ _ _ _ _ _ _ _ r _ c.in-Ok.outcome made.0 (round_at _ _ _ _ _ _ _ _ _ _ c.loop.invariant.known r.holds.entries made.1) _ _ made.2 c.in_default.ensures.printed c.in_default-outcome.not-Current;
      known = c.in-Ok.ensures.known;
      later = let before = c.loop.invariant.later in let now = c.in-Ok.ensures.later in omega (arith, before, now);
      sink = record {
        later = let before = c.loop.invariant.sink.later in let now = c.in_default.ensures.sink.later in omega (arith, before, now);
        same = g.met.K.Sink.same_trans _ _ _ c.loop.invariant.sink.same c.in_default.ensures.sink.same;
      };
    }

pub returns-clause-made : goal.returns-clause-made
returns-clause-made g c =
    let r = c.loop.invariant.reached in
    let past = c.loop-test.false in
    let end = c.loop.auto.counter-end in
    ends_behind _ _ _ _ _ _ _ _ _ _ _ _ _ _ _ r c.args.rounds _ _ (omega (arith, past, end))

pub returns-clause-keeps : goal.returns-clause-keeps
returns-clause-keeps g c = c.loop.invariant.reached.keeps

pub returns-clause-moments : goal.returns-clause-moments
returns-clause-moments g c all owner = (c.loop.invariant.reached.along all (owner_at all _ _ _ c.requires.known owner)).1
