use Rattle.std.proofs.Common.{arith}
use Rattle.ots_calendar.proofs.Growing.{adds}
use Rattle.ots_calendar.proofs.Keeping.{adds_keeps, adds_readable}
use Rattle.ots_calendar.proofs.Standing.{kept_grows, stand_grows}
use Rattle.ots_calendar.proofs.book.Book.add_commit.Goals as goal

pub invariant_of-self : goal.invariant_of-self
invariant_of-self g c =
    let d = g.D.Disk in
    let s = c.self.inside.store in
    let new = c.add_commit.new.self.journal in
    record {
      records = adds_keeps d.bytes d.images d.clock d.images_since s new c.args.commitment.now c.self.invariant.records c.stands.ensures c.add_commit.result c.add_commit.ensures.adds;
      kept = kept_grows s.journal new c.self.inside.kept (adds d.bytes d.clock d.images_since s.journal new _ c.add_commit.result c.add_commit.ensures.adds) c.self.invariant.kept;
      settled = stand_grows s.journal new c.self.inside.tickets.settled (adds d.bytes d.clock d.images_since s.journal new _ c.add_commit.result c.add_commit.ensures.adds) c.self.invariant.settled;
    }

pub returns-clause-adds : goal.returns-clause-adds
returns-clause-adds g c = rw (← c.self.view_is) c.add_commit.ensures.adds

pub returns-clause-readable : goal.returns-clause-readable
returns-clause-readable g c =
    rw (← c.self.view_is) (adds_readable g.D.Disk.bytes g.D.Disk.images g.D.Disk.clock g.D.Disk.images_since c.self.inside.store c.add_commit.new.self.journal c.args.commitment.now c.self.invariant.records c.stands.ensures
    g.met.D.Disk.only_now c.add_commit.result (omega arith) c.add_commit.ensures.adds)
