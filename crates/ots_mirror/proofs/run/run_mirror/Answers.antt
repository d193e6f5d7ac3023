use Rattle.std.proofs.Common.{refl}
use Rattle.ots_mirror_words.specs.declared.status.MirrorStatus.TheVariants.{OutOfMemory, Usage}
use Rattle.ots_mirror.specs.Run.{no_words_memory, usage}
use Rattle.ots_mirror.proofs.Running.{idle_after, idle_along, refused_ends, words_ends}
use Rattle.ots_mirror.proofs.run.run_mirror.Goals as goal

pub returns-in-Ok-clause-ends : goal.returns-in-Ok-clause-ends
returns-in-Ok-clause-ends g c = words_ends g.T.Dialer.told g.T.Dialer.faults _ _ _ _ _ _ _ _ _ _ _ c.in-Ok.ensures c.mirror_asked.ensures.ends

pub returns-in-Err-Usage-clause-ends : goal.returns-in-Err-Usage-clause-ends
returns-in-Err-Usage-clause-ends g c = rw c.refuse.ensures.disk
    (refused_ends _ _ _ _ _ _ Usage
    (usage (c.in-Err-Usage.ensures c.in-Err-Usage.field-0-is) refl refl) c.refuse.ensures.printed)

pub returns-in-Err-Usage-clause-keeps : goal.returns-in-Err-Usage-clause-keeps
returns-in-Err-Usage-clause-keeps g c found one = rw c.refuse.ensures.disk
    (idle_after g.D.Disk.bytes g.D.Disk.clock g.D.Disk.images g.D.Disk.images_since c.args.disk found one g.met.D.Disk.only_now)

pub returns-in-Err-Usage-clause-crash : goal.returns-in-Err-Usage-clause-crash
returns-in-Err-Usage-clause-crash g c found one all owner = rw c.refuse.ensures.disk
    (idle_along g.D.Disk.bytes g.D.Disk.clock g.D.Disk.images g.D.Disk.images_since c.args.disk found one all _ owner g.met.D.Disk.only_now)

pub returns-in-Err-OutOfMemory-clause-ends : goal.returns-in-Err-OutOfMemory-clause-ends
returns-in-Err-OutOfMemory-clause-ends g c = rw c.refuse-in-Err-OutOfMemory.ensures.disk
    (refused_ends _ _ _ _ _ _ OutOfMemory
    (no_words_memory refl refl) c.refuse-in-Err-OutOfMemory.ensures.printed)

pub returns-in-Err-OutOfMemory-clause-keeps : goal.returns-in-Err-OutOfMemory-clause-keeps
returns-in-Err-OutOfMemory-clause-keeps g c found one = rw c.refuse-in-Err-OutOfMemory.ensures.disk
    (idle_after g.D.Disk.bytes g.D.Disk.clock g.D.Disk.images g.D.Disk.images_since c.args.disk found one g.met.D.Disk.only_now)

pub returns-in-Err-OutOfMemory-clause-crash : goal.returns-in-Err-OutOfMemory-clause-crash
returns-in-Err-OutOfMemory-clause-crash g c found one all owner = rw c.refuse-in-Err-OutOfMemory.ensures.disk
    (idle_along g.D.Disk.bytes g.D.Disk.clock g.D.Disk.images g.D.Disk.images_since c.args.disk found one all _ owner g.met.D.Disk.only_now)
