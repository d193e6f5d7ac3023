use Rattle.std.proofs.Common.{inl, inr}
use Rattle.ots_journal.specs.declared.limits.TheConstants.{MAX_JOURNAL}
use Rattle.ots_calendar_endings.proofs.Running.{closed_ends, opened_ends, opened_kept, opened_moments}
use Rattle.ots_calendar_maintenance.specs.Anchor.{AddsAnchor, AnchorAnswers}
use Rattle.ots_calendar_maintenance.proofs.Within.{anchor_within}
use Rattle.ots_calendar_maintenance.proofs.anchor_command.anchor_in.Goals as goal

pub returns-in-Ok-clause-ends : goal.returns-in-Ok-clause-ends
returns-in-Ok-clause-ends g c =
    opened_ends g.D.Disk.bytes g.D.Disk.faults g.D.Disk.clock g.D.Disk.images g.D.Disk.images_since (AnchorAnswers MAX_JOURNAL c.args.block.now c.args.height) _ _ _ _
    c.args.disk c.in-Ok.book.store.journal c.store_anchor-status.new.book.store.journal.disk c.into_disk.result c.into_disk.ensures c.in-Ok.ensures.ok
    (anchor_within c.in-Ok.book.store.journal.limit MAX_JOURNAL _ _ _ _ _ _ _ _ _ _ c.in-Ok.ensures.ok.store.limit c.store_anchor-status.ensures.ends)

pub returns-in-Ok-clause-moments : goal.returns-in-Ok-clause-moments
returns-in-Ok-clause-moments g c =
    opened_moments g.D.Disk.bytes g.D.Disk.faults g.D.Disk.clock g.D.Disk.images g.D.Disk.images_since (AddsAnchor c.args.block.now c.args.height)
    c.args.disk c.in-Ok.book.store.journal c.store_anchor-status.new.book.store.journal.disk c.into_disk.result c.into_disk.ensures c.in-Ok.ensures.ok c.store_anchor-status.ensures.moments

pub returns-in-Err-clause-ends : goal.returns-in-Err-clause-ends
returns-in-Err-clause-ends g c =
    closed_ends g.D.Disk.bytes g.D.Disk.faults g.D.Disk.clock g.D.Disk.images g.D.Disk.images_since (AnchorAnswers MAX_JOURNAL c.args.block.now c.args.height) _ _ _ _
    c.args.disk c.in-Err.closed.disk c.in-Err.closed.why c.in-Err.ensures.err c.refuse-status.ensures.printed

pub returns-in-Ok-clause-kept : goal.returns-in-Ok-clause-kept
returns-in-Ok-clause-kept g c = inl (opened_kept g.D.Disk.bytes g.D.Disk.faults g.D.Disk.clock g.D.Disk.images g.D.Disk.images_since g.met.D.Disk.counts_now (AddsAnchor c.args.block.now c.args.height)
    c.args.disk c.in-Ok.book.store.journal c.store_anchor-status.new.book.store.journal.disk c.into_disk.result c.into_disk.ensures c.in-Ok.ensures.ok.store c.store_anchor-status.ensures.moments)

pub returns-in-Err-clause-kept : goal.returns-in-Err-clause-kept
returns-in-Err-clause-kept g c = inr c.in-Err.ensures.err.such.moments
