use Rattle.std.proofs.Common.{inl, sym, subst}
use Rattle.ots_calendar.specs.Anchors.{AnchorsIn}
use Rattle.ots_calendar.specs.Book.{BookTold}
use Rattle.ots_calendar.proofs.AnchoringIn.{anchor_memory, anchor_untouched}
use Rattle.ots_calendar.proofs.Growing.{anchor_grows}
use Rattle.ots_calendar.proofs.book.Book.anchor.Goals as goal

pub returns-clause-asks : goal.returns-clause-asks
returns-clause-asks g c =
    let d = g.D.Disk in
    let result = c.anchor_in-anchored.result in
    inl (
      c.in_ok-check_root.ensures.ok,
      subst (λ (b : BookTold g.row.D.Denot). AnchorsIn d.bytes d.clock d.images_since c.args.block.now c.args.height c.args.self.now.store.journal b.store.journal result) (sym c.catch_up.ensures)
          (subst (λ (b : BookTold g.row.D.Denot). AnchorsIn d.bytes d.clock d.images_since c.args.block.now c.args.height b.store.journal c.anchor_in-anchored.new.self.store.journal result) c.start.ensures.same
          c.anchor_in-anchored.ensures.asks),
    )

pub returns-clause-grows : goal.returns-clause-grows
returns-clause-grows g c =
    let d = g.D.Disk in
    anchor_grows d.bytes d.clock d.images_since c.args.block.now c.args.height c.args.self.now.store.journal c.catch_up.new.self.store.journal c.anchor_in-anchored.result (returns-clause-asks g c)

pub returns-clause-only_refreshed : goal.returns-clause-only_refreshed
returns-clause-only_refreshed g c is =
    let d = g.D.Disk in
    anchor_memory d.bytes d.clock d.images_since c.args.block.now c.args.height c.args.self.now.store.journal c.catch_up.new.self.store.journal c.anchor_in-anchored.result is (returns-clause-asks g c)

pub returns-clause-untouched : goal.returns-clause-untouched
returns-clause-untouched g c sure is =
    let d = g.D.Disk in
    anchor_untouched d.bytes d.clock d.images_since c.args.block.now c.args.height c.args.self.now.store.journal c.catch_up.new.self.store.journal c.anchor_in-anchored.result is sure (returns-clause-only_refreshed g c is)
