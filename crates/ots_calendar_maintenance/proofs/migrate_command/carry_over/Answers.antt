use Rattle.std.specs.Prelude.{Err, Ok}
use Rattle.ots_base.specs.Cause.{Rose}
use Rattle.ots_calendar_maintenance.proofs.Migrating.{all_stored, bad_over, carries_rest, is_bad, is_other, none_over, not_stored}
use Rattle.ots_calendar_maintenance.proofs.migrate_command.carry_over.Goals as goal

pub returns-in-Some-clause-carries : goal.returns-in-Some-clause-carries
returns-in-Some-clause-carries g c =
    is_other g.D.Disk.clock g.D.Disk.images g.D.Disk.images_since g.met.D.Disk.only_now _ c.args.old.now c.args.store.now.journal c.requires.stands c.in-Some.index c.in-Some.ensures

pub returns-in-Some-first_bad-clause-carries : goal.returns-in-Some-first_bad-clause-carries
returns-in-Some-first_bad-clause-carries g c =
    is_bad g.D.Disk.clock g.D.Disk.images g.D.Disk.images_since g.met.D.Disk.only_now _ c.args.old.now c.args.store.now.journal c.requires.stands c.in_default.ensures.0 c.in_default.ensures.1 _
    (bad_over c.args.store.now.journal.entries c.args.old.now c.in_default.ensures.0 c.in_default.ensures.1 c.args.store.now.records c.stands.ensures.records c.entries-held.result c.entries-held.ensures.count
    c.in-Some-first_bad.index c.stands.ensures.are c.in-Some-first_bad.ensures)

pub returns-in-Ok-clause-carries : goal.returns-in-Ok-clause-carries
returns-in-Ok-clause-carries g c =
    all_stored g.D.Disk.clock g.D.Disk.images g.D.Disk.images_since g.met.D.Disk.only_now (Rose (g.D.Disk.faults c.args.store.now.journal.disk) (g.D.Disk.faults c.add_groups.new.store.journal.disk)) c.args.old.now c.args.store.now.journal c.requires.stands c.in_default.ensures.0 c.in_default.ensures.1 c.add_groups.new.store.journal
    (none_over c.args.store.now.journal.entries c.args.old.now c.in_default.ensures.0 c.in_default.ensures.1 c.args.store.now.records c.stands.ensures.records c.entries-held.result c.entries-held.ensures.count
    c.stands.ensures.are c.in_default-first_bad.ensures) tt
    (carries_rest c.args.store.now.journal.entries c.args.old.now c.in_default.ensures.0 c.in_default.ensures.1 c.args.store.now.records c.stands.ensures.records c.entries-held.result c.entries-held.ensures.count
    g.D.Disk.clock g.D.Disk.images g.D.Disk.images_since (Rose (g.D.Disk.faults c.args.store.now.journal.disk) (g.D.Disk.faults c.add_groups.new.store.journal.disk)) c.args.store.now.journal c.add_groups.new.store.journal (Ok tt) c.in-Ok.ensures.carries)

pub returns-in-Err-clause-carries : goal.returns-in-Err-clause-carries
returns-in-Err-clause-carries g c =
    not_stored g.D.Disk.clock g.D.Disk.images g.D.Disk.images_since g.met.D.Disk.only_now (Rose (g.D.Disk.faults c.args.store.now.journal.disk) (g.D.Disk.faults c.add_groups.new.store.journal.disk)) c.args.old.now c.args.store.now.journal c.requires.stands c.in_default.ensures.0 c.in_default.ensures.1 c.add_groups.new.store.journal
    (none_over c.args.store.now.journal.entries c.args.old.now c.in_default.ensures.0 c.in_default.ensures.1 c.args.store.now.records c.stands.ensures.records c.entries-held.result c.entries-held.ensures.count
    c.stands.ensures.are c.in_default-first_bad.ensures) c.in-Err.why
    (carries_rest c.args.store.now.journal.entries c.args.old.now c.in_default.ensures.0 c.in_default.ensures.1 c.args.store.now.records c.stands.ensures.records c.entries-held.result c.entries-held.ensures.count
    g.D.Disk.clock g.D.Disk.images g.D.Disk.images_since (Rose (g.D.Disk.faults c.args.store.now.journal.disk) (g.D.Disk.faults c.add_groups.new.store.journal.disk)) c.args.store.now.journal c.add_groups.new.store.journal (Err c.in-Err.why) c.in-Err.ensures.carries)
