use Rattle.ots_mirror_words.specs.Words.{read_as}
use Rattle.ots_mirror.proofs.Running.{address_refused, disk_asked, idle_after, idle_along, refused_ends}
use Rattle.ots_mirror.proofs.run.mirror_asked.Goals as goal

pub returns-in-Ok-clause-ends : goal.returns-in-Ok-clause-ends
returns-in-Ok-clause-ends g c =
    disk_asked g.T.Dialer.told g.T.Dialer.faults _ _ _ (read_as c.args.asked) c.in-Ok.address _ _ _ _ _ _ c.in-Ok.ensures.ok c.mirror_disk.ensures.ends

pub returns-in-Err-clause-ends : goal.returns-in-Err-clause-ends
returns-in-Err-clause-ends g c = rw c.refuse.ensures.disk
    (refused_ends _ _ _ _ _ _ c.address_status.result
    (address_refused g.T.Dialer.told g.T.Dialer.faults _ _ _ (read_as c.args.asked) _ _ c.address_status.result c.in-Err.ensures.bad c.address_status.ensures) c.refuse.ensures.printed)

pub returns-in-Err-clause-keeps : goal.returns-in-Err-clause-keeps
returns-in-Err-clause-keeps g c found one = rw c.refuse.ensures.disk
    (idle_after g.D.Disk.bytes g.D.Disk.clock g.D.Disk.images g.D.Disk.images_since c.args.disk found one g.met.D.Disk.only_now)

pub returns-in-Err-clause-crash : goal.returns-in-Err-clause-crash
returns-in-Err-clause-crash g c found one all owner = rw c.refuse.ensures.disk
    (idle_along g.D.Disk.bytes g.D.Disk.clock g.D.Disk.images g.D.Disk.images_since c.args.disk found one all _ owner g.met.D.Disk.only_now)
