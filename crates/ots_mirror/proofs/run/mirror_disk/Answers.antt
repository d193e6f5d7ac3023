use Rattle.ots_mirror.proofs.Running.{disk_ends, opened_after, opened_along, rounds_after, rounds_along, unopened_ends}
use Rattle.ots_mirror.proofs.run.mirror_disk.Goals as goal

pub returns-in-Ok-clause-ends : goal.returns-in-Ok-clause-ends
returns-in-Ok-clause-ends g c =
    disk_ends g.T.Dialer.told g.T.Dialer.faults c.args.address.now g.D.Disk.bytes g.D.Disk.faults g.D.Disk.clock g.D.Disk.images g.D.Disk.images_since c.args.disk c.mirror_store.result.1 c.args.rounds _ _ _ _
    c.in-Ok.store.journal _ _ c.in-Ok.ensures.ok c.mirror_store.ensures.ends

pub returns-in-Ok-clause-keeps : goal.returns-in-Ok-clause-keeps
returns-in-Ok-clause-keeps g c found one =
    rounds_after g.D.Disk.bytes g.D.Disk.clock g.D.Disk.images g.D.Disk.images_since c.args.disk found one g.D.Disk.faults c.in-Ok.store.journal c.mirror_store.result.1
    c.in-Ok.ensures.ok c.mirror_store.ensures.keeps

pub returns-in-Ok-clause-crash : goal.returns-in-Ok-clause-crash
returns-in-Ok-clause-crash g c found one all owner =
    rounds_along g.D.Disk.bytes g.D.Disk.clock g.D.Disk.images g.D.Disk.images_since c.args.disk found one all _ owner g.D.Disk.faults c.in-Ok.store.journal c.in-Ok.store.records c.mirror_store.result.1
    c.in-Ok.ensures.ok c.in-Ok.ensures.records (c.mirror_store.ensures.moments all)

pub returns-in-Err-clause-ends : goal.returns-in-Err-clause-ends
returns-in-Err-clause-ends g c = rw c.refuse.ensures.disk
    (unopened_ends g.T.Dialer.told g.T.Dialer.faults c.args.address.now g.D.Disk.bytes g.D.Disk.faults g.D.Disk.clock g.D.Disk.images g.D.Disk.images_since c.args.disk _ c.args.rounds _ _ _ _
    _ _ _ c.in-Err.ensures.err c.open_status.ensures c.refuse.ensures.printed)

pub returns-in-Err-clause-keeps : goal.returns-in-Err-clause-keeps
returns-in-Err-clause-keeps g c found one = rw c.refuse.ensures.disk
    (opened_after g.D.Disk.bytes g.D.Disk.clock g.D.Disk.images g.D.Disk.images_since c.args.disk found one _ c.in-Err.ensures.err.moments)

pub returns-in-Err-clause-crash : goal.returns-in-Err-clause-crash
returns-in-Err-clause-crash g c found one all owner = rw c.refuse.ensures.disk
    (opened_along g.D.Disk.bytes g.D.Disk.clock g.D.Disk.images g.D.Disk.images_since c.args.disk found one all _ owner _ c.in-Err.ensures.err.moments)
