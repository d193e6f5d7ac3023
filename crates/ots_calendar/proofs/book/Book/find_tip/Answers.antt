use Rattle.std.proofs.Common.{List, subst}
use Rattle.ots_kept_trees.specs.Kept.{AreKept}
use Rattle.ots_store.specs.Order.{commits_of}
use Rattle.ots_store.specs.Records.{Record}
use Rattle.ots_calendar.proofs.Standing.{stand_grows}
use Rattle.ots_calendar.proofs.Tipping.{finds_grows, finds_keeps, finds_readable}
use Rattle.ots_calendar.proofs.book.Book.find_tip.Goals as goal

pub invariant_of-self : goal.invariant_of-self
invariant_of-self g c =
    let d = g.D.Disk in
    let old = c.self.inside.store.journal in
    let new = c.find_tip.new.store.journal in
    let result = c.find_tip.result in
    record {
      records = finds_keeps d.bytes d.clock d.images_since old new c.self.invariant.records result c.find_tip.ensures.finds;
      kept = subst (λ (l : List Record). AreKept (commits_of l) c.find_tip.new.trees) c.find_tip.ensures.records c.find_tip.ensures.kept;
      settled = stand_grows old new c.self.inside.tickets.settled (finds_grows d.bytes d.clock d.images_since old new result c.find_tip.ensures.finds) c.self.invariant.settled;
    }

pub returns-clause-readable : goal.returns-clause-readable
returns-clause-readable g c =
    let d = g.D.Disk in
    rw (← c.self.view_is) (finds_readable d.bytes d.clock d.images_since d.images g.met.D.Disk.only_now c.self.inside.store c.find_tip.new.store.journal c.self.invariant.records
    c.stands.ensures c.find_tip.result c.find_tip.ensures.finds)
