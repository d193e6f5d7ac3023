use Rattle.ots_calendar_endings.proofs.Opened.{book_refused, store_refused}
use Rattle.ots_calendar_endings.proofs.opening.open_book.Goals as goal

pub returns-in-Err-open-clause-err : goal.returns-in-Err-open-clause-err
returns-in-Err-open-clause-err g c =
    book_refused g.D.Disk.bytes g.D.Disk.faults g.D.Disk.clock g.D.Disk.images g.D.Disk.images_since c.args.disk c.in-Ok.store.journal c.in-Ok.store.records _ _ _ _
    c.in-Ok.ensures.ok c.in-Ok.ensures.records c.in-Err-open.ensures.bad c.in-Err-open.ensures.disk c.from.ensures c.open_status.ensures

pub returns-in-Err-clause-err : goal.returns-in-Err-clause-err
returns-in-Err-clause-err g c =
    store_refused g.D.Disk.bytes g.D.Disk.faults g.D.Disk.clock g.D.Disk.images g.D.Disk.images_since c.args.disk c.in-Err.closed.disk c.in-Err.closed.why c.in-Err.ensures.err
