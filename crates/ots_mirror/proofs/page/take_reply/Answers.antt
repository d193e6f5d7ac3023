use Rattle.std.proofs.Common.{[], refl}
use Rattle.ots_base.specs.Cause.{Rose}
use Rattle.ots_mirror.proofs.Grouping.{adds_none, nothing_read}
use Rattle.ots_mirror.proofs.page.take_reply.Goals as goal

pub returns-in-Ok-Good-clause-taken : goal.returns-in-Ok-Good-clause-taken
returns-in-Ok-Good-clause-taken g c = rw (c.in-Ok-Good.is, c.in-Ok-Good.field-0-is) (rw c.items.ensures at c.take_body.ensures.taken)

pub returns-in-Ok-Status-clause-taken : goal.returns-in-Ok-Status-clause-taken
returns-in-Ok-Status-clause-taken g c = rw (c.in-Ok-Status.is, c.in-Ok-Status.field-0-is)
    ([], (refl, refl), adds_none g.D.Disk.clock g.D.Disk.images g.D.Disk.images_since g.met.D.Disk.only_now c.args.store.now.journal c.requires.sure c.requires.stands)

pub returns-in-Err-clause-taken : goal.returns-in-Err-clause-taken
returns-in-Err-clause-taken g c = rw (c.in-Err.is, c.without_reply.ensures)
    (nothing_read g.D.Disk.clock g.D.Disk.images g.D.Disk.images_since g.met.D.Disk.only_now c.args.store.now.journal c.requires.sure c.requires.stands
    (Rose (g.D.Disk.faults c.args.store.now.journal.disk) (g.D.Disk.faults c.args.store.now.journal.disk)) c.args.store.now.records c.in-Err.why)
