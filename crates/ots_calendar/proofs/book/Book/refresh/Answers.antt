use Rattle.ots_calendar.proofs.Keeping.{refresh_keeps, refresh_readable}
use Rattle.ots_calendar.proofs.Standing.{kept_grows, refresh_grows, stand_grows}
use Rattle.ots_calendar.proofs.book.Book.refresh.Goals as goal

pub invariant_of-self : goal.invariant_of-self
invariant_of-self g c =
    let old = c.self.inside.store.journal in
    let new = c.refresh.new.self.journal in
    record {
      records = refresh_keeps g.D.Disk.bytes old new c.self.invariant.records c.refresh.result c.refresh.ensures.ok c.refresh.ensures.err;
      kept = kept_grows old new c.self.inside.kept (refresh_grows g.D.Disk.bytes old new c.refresh.result c.refresh.ensures.ok c.refresh.ensures.err) c.self.invariant.kept;
      settled = stand_grows old new c.self.inside.tickets.settled (refresh_grows g.D.Disk.bytes old new c.refresh.result c.refresh.ensures.ok c.refresh.ensures.err) c.self.invariant.settled;
    }

pub returns-clause-readable : goal.returns-clause-readable
returns-clause-readable g c =
    rw (← c.self.view_is) (refresh_readable g.D.Disk.bytes g.D.Disk.images g.D.Disk.clock g.D.Disk.images_since c.self.inside.store c.refresh.new.self.journal c.self.invariant.records
    c.stands.ensures c.refresh.ensures.any_moment c.refresh.result c.refresh.ensures.ok c.refresh.ensures.err)
