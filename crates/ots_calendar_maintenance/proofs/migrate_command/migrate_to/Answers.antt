use Rattle.std.proofs.Common.{inl, inr}
use Rattle.ots_journal.specs.declared.limits.TheConstants.{MAX_JOURNAL}
use Rattle.ots_opening.specs.Opening.{HasRecords, RefusesStore}
use Rattle.ots_calendar_maintenance.specs.Migrate.{AddsPrefix, MigrateAnswers}
use Rattle.ots_calendar_maintenance.proofs.Migrating.{carry_within}
use Rattle.ots_calendar_endings.proofs.Running.{journal_ends, journal_moments, no_journal, opened_kept}
use Rattle.ots_calendar_maintenance.proofs.migrate_command.migrate_to.Goals as goal

pub returns-in-Ok-clause-ends : goal.returns-in-Ok-clause-ends
returns-in-Ok-clause-ends g c =
    journal_ends g.D.Disk.bytes g.D.Disk.faults g.D.Disk.clock g.D.Disk.images g.D.Disk.images_since HasRecords RefusesStore (MigrateAnswers MAX_JOURNAL c.args.old.now) _ _ _ _
    c.args.disk c.in-Ok.store.journal c.carry-status.new.store.journal.disk c.into_disk.result c.into_disk.ensures c.in-Ok.ensures.ok c.in-Ok.ensures.ok.has
    (carry_within c.in-Ok.store.journal.limit MAX_JOURNAL _ _ _ _ _ _ _ _ _ c.in-Ok.ensures.ok.limit c.carry-status.ensures.ends)

pub returns-in-Ok-clause-moments : goal.returns-in-Ok-clause-moments
returns-in-Ok-clause-moments g c =
    journal_moments g.D.Disk.bytes g.D.Disk.faults g.D.Disk.clock g.D.Disk.images g.D.Disk.images_since (AddsPrefix c.args.old.now)
    c.args.disk c.in-Ok.store.journal c.carry-status.new.store.journal.disk c.into_disk.result c.into_disk.ensures c.in-Ok.ensures.ok c.carry-status.ensures.moments

pub returns-in-Err-clause-ends : goal.returns-in-Err-clause-ends
returns-in-Err-clause-ends g c =
    no_journal g.D.Disk.bytes g.D.Disk.faults g.D.Disk.clock g.D.Disk.images g.D.Disk.images_since HasRecords RefusesStore (MigrateAnswers MAX_JOURNAL c.args.old.now) _ _ _ _
    c.args.disk c.in-Err.closed.disk c.in-Err.closed.why c.in-Err.ensures.err c.refuse-status.ensures.printed

pub returns-in-Ok-clause-kept : goal.returns-in-Ok-clause-kept
returns-in-Ok-clause-kept g c = inl (opened_kept g.D.Disk.bytes g.D.Disk.faults g.D.Disk.clock g.D.Disk.images g.D.Disk.images_since g.met.D.Disk.counts_now (AddsPrefix c.args.old.now)
    c.args.disk c.in-Ok.store.journal c.carry-status.new.store.journal.disk c.into_disk.result c.into_disk.ensures c.in-Ok.ensures.ok c.carry-status.ensures.moments)

pub returns-in-Err-clause-kept : goal.returns-in-Err-clause-kept
returns-in-Err-clause-kept g c = inr c.in-Err.ensures.err.such.moments
