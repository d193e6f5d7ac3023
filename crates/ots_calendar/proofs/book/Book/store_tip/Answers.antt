use Rattle.std.proofs.Common.{◌≡◌, true, sym, ap, subst, ◌∙◌}
use Rattle.ots_store.specs.Order.{commits_of, FollowsTip}
use Rattle.ots_store.specs.Records.{TipRecord, entry_of}
use Rattle.ots_calendar.specs.Book.{BookTold}
use Rattle.ots_calendar.specs.Values.{IsTrueTip}
use Rattle.ots_calendar.proofs.Growing.{added}
use Rattle.ots_calendar.proofs.Keeping.{add_keeps, add_readable, tip_more, tip_records}
use Rattle.ots_calendar.proofs.Standing.{kept_grows, stand_grows}
use Rattle.ots_calendar.proofs.book.Book.store_tip.Goals as goal

pub invariant_of-self : goal.invariant_of-self
invariant_of-self g c =
    let s = c.self.inside.store in
    let sure : s.journal.is_sure ≡ true = ap (λ (b : BookTold g.row.D.Denot). b.store.journal.is_sure) c.self.view_is ∙ c.requires.sure in
    let is_true : IsTrueTip (commits_of s.records) c.args.tip.now = subst (λ (b : BookTold g.row.D.Denot). IsTrueTip (commits_of b.store.records) c.args.tip.now) (sym c.self.view_is) c.requires.next.is_true in
    let new = c.add_tip.new.self.journal in
    record {
      records = add_keeps g.D.Disk.clock g.D.Disk.images_since s.journal new (entry_of (TipRecord c.args.tip.now)) sure c.stands.ensures.are c.self.invariant.records
          (tip_more s.records s.journal.entries c.args.tip.now c.stands.ensures.records c.requires.fits is_true) c.add_tip.result c.add_tip.ensures.added;
      kept = kept_grows s.journal new c.self.inside.kept (added g.D.Disk.clock g.D.Disk.images_since s.journal new _ c.add_tip.result c.add_tip.ensures.added) c.self.invariant.kept;
      settled = stand_grows s.journal new c.self.inside.tickets.settled (added g.D.Disk.clock g.D.Disk.images_since s.journal new _ c.add_tip.result c.add_tip.ensures.added) c.self.invariant.settled;
    }

pub returns-clause-readable : goal.returns-clause-readable
returns-clause-readable g c =
    let s = c.self.inside.store in
    let sure : s.journal.is_sure ≡ true = ap (λ (b : BookTold g.row.D.Denot). b.store.journal.is_sure) c.self.view_is ∙ c.requires.sure in
    let is_true : IsTrueTip (commits_of s.records) c.args.tip.now = subst (λ (b : BookTold g.row.D.Denot). IsTrueTip (commits_of b.store.records) c.args.tip.now) (sym c.self.view_is) c.requires.next.is_true in
    let follows : FollowsTip s.records c.args.tip.now = subst (λ (b : BookTold g.row.D.Denot). FollowsTip b.store.records c.args.tip.now) (sym c.self.view_is) c.requires.next.follows in
    rw (← c.self.view_is) (add_readable g.D.Disk.clock g.D.Disk.images_since s.journal c.add_tip.new.self.journal (entry_of (TipRecord c.args.tip.now)) sure c.stands.ensures.are c.self.invariant.records
    (tip_more s.records s.journal.entries c.args.tip.now c.stands.ensures.records c.requires.fits is_true) c.add_tip.result
    (tip_records s.records s.journal.entries c.args.tip.now c.stands.ensures.records c.stands.ensures.are c.requires.fits follows) c.add_tip.ensures.added)
