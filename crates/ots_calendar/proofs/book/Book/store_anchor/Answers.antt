use Rattle.std.proofs.Common.{◌≡◌, true, sym, ap, subst, ◌∙◌}
use Rattle.ots_store.specs.Order.{commits_of, FollowsAnchor}
use Rattle.ots_store.specs.Records.{AnchorRecord, entry_of}
use Rattle.ots_calendar.specs.Book.{BookTold}
use Rattle.ots_calendar.specs.Values.{IsTrueAnchor}
use Rattle.ots_calendar.proofs.Growing.{added}
use Rattle.ots_calendar.proofs.Keeping.{add_keeps, add_readable, anchor_more, anchor_records}
use Rattle.ots_calendar.proofs.Standing.{kept_grows, stand_grows}
use Rattle.ots_calendar.proofs.book.Book.store_anchor.Goals as goal

pub invariant_of-self : goal.invariant_of-self
invariant_of-self g c =
    let s = c.self.inside.store in
    let sure : s.journal.is_sure ≡ true = ap (λ (b : BookTold g.row.D.Denot). b.store.journal.is_sure) c.self.view_is ∙ c.requires.sure in
    let is_true : IsTrueAnchor (commits_of s.records) c.args.anchor.now = subst (λ (b : BookTold g.row.D.Denot). IsTrueAnchor (commits_of b.store.records) c.args.anchor.now) (sym c.self.view_is) c.requires.may_stand.is_true in
    let new = c.add_anchor.new.self.journal in
    record {
      records = add_keeps g.D.Disk.clock g.D.Disk.images_since s.journal new (entry_of (AnchorRecord c.args.anchor.now)) sure c.stands.ensures.are c.self.invariant.records
          (anchor_more s.records s.journal.entries c.args.anchor.now c.stands.ensures.records c.requires.may_stand.fits is_true) c.add_anchor.result c.add_anchor.ensures.added;
      kept = kept_grows s.journal new c.self.inside.kept (added g.D.Disk.clock g.D.Disk.images_since s.journal new _ c.add_anchor.result c.add_anchor.ensures.added) c.self.invariant.kept;
      settled = stand_grows s.journal new c.self.inside.tickets.settled (added g.D.Disk.clock g.D.Disk.images_since s.journal new _ c.add_anchor.result c.add_anchor.ensures.added) c.self.invariant.settled;
    }

pub returns-clause-added : goal.returns-clause-added
returns-clause-added g c = rw (← c.self.view_is) c.add_anchor.ensures.added

pub returns-clause-readable : goal.returns-clause-readable
returns-clause-readable g c =
    let s = c.self.inside.store in
    let sure : s.journal.is_sure ≡ true = ap (λ (b : BookTold g.row.D.Denot). b.store.journal.is_sure) c.self.view_is ∙ c.requires.sure in
    let is_true : IsTrueAnchor (commits_of s.records) c.args.anchor.now = subst (λ (b : BookTold g.row.D.Denot). IsTrueAnchor (commits_of b.store.records) c.args.anchor.now) (sym c.self.view_is) c.requires.may_stand.is_true in
    let follows : FollowsAnchor s.records c.args.anchor.now = subst (λ (b : BookTold g.row.D.Denot). FollowsAnchor b.store.records c.args.anchor.now) (sym c.self.view_is) c.requires.may_stand.follows in
    rw (← c.self.view_is) (add_readable g.D.Disk.clock g.D.Disk.images_since s.journal c.add_anchor.new.self.journal (entry_of (AnchorRecord c.args.anchor.now)) sure c.stands.ensures.are c.self.invariant.records
    (anchor_more s.records s.journal.entries c.args.anchor.now c.stands.ensures.records c.requires.may_stand.fits is_true) c.add_anchor.result
    (anchor_records s.records s.journal.entries c.args.anchor.now c.stands.ensures.records c.stands.ensures.are c.requires.may_stand.fits follows) c.add_anchor.ensures.added)
