use Rattle.ots_opening.proofs.Opened.{journal_refused, store_opened}
use Rattle.ots_opening.proofs.opening.open_store.Goals as goal

pub returns-in-Ok-open-clause-ok : goal.returns-in-Ok-open-clause-ok
returns-in-Ok-open-clause-ok g c =
    store_opened g.D.Disk.bytes g.D.Disk.faults g.D.Disk.clock g.D.Disk.images g.D.Disk.images_since c.args.disk c.in-Ok.journal c.in-Ok-open.store.journal
    c.in-Ok-open.ensures.journal c.in-Ok.ensures.sure.0 c.in-Ok.ensures.sure.2 c.in-Ok.ensures.full c.in-Ok.ensures.list c.in-Ok.ensures.gate c.in-Ok.ensures.images c.in-Ok.ensures.any_moment_ok c.in-Ok.ensures.faults_ok c.in-Ok-open.ensures.are

pub returns-in-Err-clause-err : goal.returns-in-Err-clause-err
returns-in-Err-clause-err g c =
    journal_refused g.D.Disk.bytes g.D.Disk.faults g.D.Disk.clock g.D.Disk.images g.D.Disk.images_since c.args.disk _ c.in-Err.field-0.why _
    c.in-Err.ensures.full c.in-Err.ensures.why c.in-Err.ensures.cause c.in-Err.ensures.any_moment_err c.into-in-Err.ensures
