use Rattle.std.specs.Prelude.{Ok, Err}
use Rattle.ots_calendar_endings.proofs.Running.{refused_as}
use Rattle.ots_calendar_maintenance.proofs.Tipping.{tip_ends, tip_printed}
use Rattle.ots_calendar_maintenance.proofs.tip_command.store_tip.Goals as goal

pub returns-in-Ok-clause-ends : goal.returns-in-Ok-clause-ends
returns-in-Ok-clause-ends g c =
    tip_printed (tip_ends g.D.Disk.bytes g.D.Disk.clock g.D.Disk.images g.D.Disk.images_since _ g.met.D.Disk.only_now c.args.book.now.store.journal c.tip.new.self.store.journal c.requires.stands
    (Ok c.in-Ok.tip) c.requires.sure c.in-Ok.ensures.asks c.in-Ok.ensures.acknowledged c.in-Ok.ensures.cause.rose)
    c.print.ensures.printed

pub returns-in-Ok-clause-moments : goal.returns-in-Ok-clause-moments
returns-in-Ok-clause-moments g c =
    (tip_ends g.D.Disk.bytes g.D.Disk.clock g.D.Disk.images g.D.Disk.images_since (Unit {0}) g.met.D.Disk.only_now c.args.book.now.store.journal c.tip.new.self.store.journal c.requires.stands
    (Ok c.in-Ok.tip) c.requires.sure c.in-Ok.ensures.asks c.in-Ok.ensures.acknowledged (λ is. tt)).moments

pub returns-in-Err-clause-ends : goal.returns-in-Err-clause-ends
returns-in-Err-clause-ends g c =
    tip_printed (tip_ends g.D.Disk.bytes g.D.Disk.clock g.D.Disk.images g.D.Disk.images_since _ g.met.D.Disk.only_now c.args.book.now.store.journal c.tip.new.self.store.journal c.requires.stands
    (Err c.in-Err.why) c.requires.sure c.in-Err.ensures.asks tt c.in-Err.ensures.cause.rose)
    (refused_as _ _ _ _ _ _ c.tip_status.ensures c.refuse.ensures.printed)

pub returns-in-Err-clause-moments : goal.returns-in-Err-clause-moments
returns-in-Err-clause-moments g c =
    (tip_ends g.D.Disk.bytes g.D.Disk.clock g.D.Disk.images g.D.Disk.images_since (Unit {0}) g.met.D.Disk.only_now c.args.book.now.store.journal c.tip.new.self.store.journal c.requires.stands
    (Err c.in-Err.why) c.requires.sure c.in-Err.ensures.asks tt (λ is. tt)).moments
