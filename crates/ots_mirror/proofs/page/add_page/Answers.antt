use Rattle.std.proofs.Common.{refl}
use Rattle.ots_base.specs.Cause.{Rose}
use Rattle.ots_mirror.specs.Round.{TakesBody, TakesGroup}
use Rattle.ots_mirror.proofs.Grouping.{page_refused}
use Rattle.ots_mirror.proofs.page.add_page.Goals as goal

pub returns-in-Err-clause-taken : goal.returns-in-Err-clause-taken
returns-in-Err-clause-taken g c body takes = rw c.append_status.ensures
    (page_refused g.D.Disk.clock g.D.Disk.images g.D.Disk.images_since c.args.store.now.journal c.add_group.new.self.journal
    (Rose (g.D.Disk.faults c.args.store.now.journal.disk) (g.D.Disk.faults c.add_group.new.self.journal.disk)) (TakesGroup (TakesBody c.args.store.now.records body)) c.args.entries.now
    (takes, refl, c.requires.fits.some) c.in-Err.why c.in-Err.ensures.added c.in-Err.ensures.cause.rose)
