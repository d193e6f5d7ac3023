use Rattle.std.proofs.Common.{List, subst, sym}
use Rattle.std.specs.Prelude.{None, Ok}
use Rattle.ots_kept_trees.specs.Kept.{AreKept}
use Rattle.ots_store.specs.Order.{commits_of}
use Rattle.ots_store.specs.Records.{Record}
use Rattle.ots_calendar.proofs.Standing.{kept_grows}
use Rattle.ots_calendar.proofs.Tipping.{finds_grows, finds_next}
use Rattle.ots_calendar.proofs.book.find_tip.Goals as goal

-- the trees are over the commitments that the refresh leaves too
pub next_tip-requires-clause-kept : goal.next_tip-requires-clause-kept
next_tip-requires-clause-kept g c =
    let d = g.D.Disk in
    let old = c.args.store.now.journal in
    let new = c.refresh.new.self.journal in
    let finds = finds_next d.bytes d.clock d.images_since old new c.reserve.new.self.journal c.reserve.ensures.room None c.in_ok-refresh.ensures.ok c.refresh.ensures.any_moment in
    subst (λ (l : List Record). AreKept (commits_of l) c.args.trees.now) (sym c.refresh.ensures.records)
    (kept_grows old new c.args.trees.now (finds_grows d.bytes d.clock d.images_since old new (Ok None) finds)
    (subst (λ (l : List Record). AreKept (commits_of l) c.args.trees.now) c.requires.records c.requires.kept))

pub returns-clause-finds : goal.returns-clause-finds
returns-clause-finds g c =
    let d = g.D.Disk in
    finds_next d.bytes d.clock d.images_since c.args.store.now.journal c.refresh.new.self.journal c.reserve.new.self.journal c.reserve.ensures.room c.next_tip.result
    c.in_ok-refresh.ensures.ok c.refresh.ensures.any_moment
