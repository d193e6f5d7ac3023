use Rattle.std.proofs.Common.{inl, inr}
use Rattle.ots_journal.specs.declared.limits.TheConstants.{MAX_JOURNAL}
use Rattle.ots_calendar_batch.specs.Batch.{AddsRound, Happens, RoundAnswers}
use Rattle.ots_base.specs.Cause.{Rose}
use Rattle.ots_calendar_endings.proofs.Running.{closed_ends, opened_ends, opened_kept, opened_moments}
use Rattle.ots_calendar_batch.proofs.Within.{round_within}
use Rattle.ots_calendar_batch.proofs.batch_command.batch_in.Goals as goal

pub returns-in-Ok-clause-ends : goal.returns-in-Ok-clause-ends
returns-in-Ok-clause-ends g c =
    opened_ends g.D.Disk.bytes g.D.Disk.faults g.D.Disk.clock g.D.Disk.images g.D.Disk.images_since
    (RoundAnswers (Happens (g.C.Clock.coming c.args.clock.now) (g.N.Nonces.left c.args.nonces.now) (g.N.Nonces.left c.put_round-status.new.nonces)) (Rose (g.N.Nonces.faults c.args.nonces.now) (g.N.Nonces.faults c.put_round-status.new.nonces))
    MAX_JOURNAL c.args.round.now.key c.args.round.now.uri c.args.round.now.digests.items) _ _ _ _
    c.args.disk c.in-Ok.book.store.journal c.put_round-status.new.book.store.journal.disk c.into_disk.result c.into_disk.ensures c.in-Ok.ensures.ok
    (round_within _ _ c.in-Ok.book.store.journal.limit MAX_JOURNAL _ _ _ _ _ _ _ _ _ _ _ c.in-Ok.ensures.ok.store.limit c.put_round-status.ensures.ends)

pub returns-in-Ok-clause-moments : goal.returns-in-Ok-clause-moments
returns-in-Ok-clause-moments g c =
    opened_moments g.D.Disk.bytes g.D.Disk.faults g.D.Disk.clock g.D.Disk.images g.D.Disk.images_since
    (AddsRound (Happens (g.C.Clock.coming c.args.clock.now) (g.N.Nonces.left c.args.nonces.now) (g.N.Nonces.left c.put_round-status.new.nonces)) c.args.round.now.key c.args.round.now.digests.items)
    c.args.disk c.in-Ok.book.store.journal c.put_round-status.new.book.store.journal.disk c.into_disk.result c.into_disk.ensures c.in-Ok.ensures.ok c.put_round-status.ensures.moments

pub returns-in-Err-clause-ends : goal.returns-in-Err-clause-ends
returns-in-Err-clause-ends g c =
    closed_ends g.D.Disk.bytes g.D.Disk.faults g.D.Disk.clock g.D.Disk.images g.D.Disk.images_since
    (RoundAnswers (Happens (g.C.Clock.coming c.args.clock.now) (g.N.Nonces.left c.args.nonces.now) (g.N.Nonces.left c.args.nonces.now)) (Rose (g.N.Nonces.faults c.args.nonces.now) (g.N.Nonces.faults c.args.nonces.now))
    MAX_JOURNAL c.args.round.now.key c.args.round.now.uri c.args.round.now.digests.items) _ _ _ _
    c.args.disk c.in-Err.closed.disk c.in-Err.closed.why c.in-Err.ensures.err c.refuse-status.ensures.printed

pub returns-in-Ok-clause-kept : goal.returns-in-Ok-clause-kept
returns-in-Ok-clause-kept g c = inl (opened_kept g.D.Disk.bytes g.D.Disk.faults g.D.Disk.clock g.D.Disk.images g.D.Disk.images_since g.met.D.Disk.counts_now (AddsRound (Happens (g.C.Clock.coming c.args.clock.now) (g.N.Nonces.left c.args.nonces.now) (g.N.Nonces.left c.put_round-status.new.nonces)) c.args.round.now.key c.args.round.now.digests.items)
    c.args.disk c.in-Ok.book.store.journal c.put_round-status.new.book.store.journal.disk c.into_disk.result c.into_disk.ensures c.in-Ok.ensures.ok.store c.put_round-status.ensures.moments)

pub returns-in-Err-clause-kept : goal.returns-in-Err-clause-kept
returns-in-Err-clause-kept g c = inr c.in-Err.ensures.err.such.moments
