use Rattle.std.proofs.Common.{sym, ap, ◌∙◌}
use Rattle.std.proofs.lemmas.Result.{err_from_is_err_and}
use Rattle.std.specs.Prelude.{Ok, Err}
use Rattle.ots_disk.specs.Moments.{joined}
use Rattle.ots_journal.specs.Within.{joined_within}
use Rattle.ots_calendar.specs.Anchors.{anchor_answer}
use Rattle.ots_calendar.specs.Book.{StandsForBook}
use Rattle.ots_calendar.proofs.AnchoringIn.{anchors_none, anchors_given}
use Rattle.ots_calendar.proofs.book.Book.anchor_in.Goals as goal

pub returns-in_err-anchor-clause-asks : goal.returns-in_err-anchor-clause-asks
returns-in_err-anchor-clause-asks g c =
    let p = err_from_is_err_and c.from_residual-in_err-anchor.result c.from_residual-in_err-anchor.ensures.1 in
    anchors_none g.D.Disk.bytes g.D.Disk.clock g.D.Disk.images_since c.args.block.now c.args.height c.args.self.now.store.journal c.refresh.new.self.store.journal
    c.in_ok-refresh.ensures.ok c.refresh.ensures.any_moment c.refresh.new.self.store.records c.refresh.ensures.records c.in_err-anchor.field-0.0 c.from_residual-in_err-anchor.result
    c.in_err-anchor.ensures.none (p.1 ∙ ap Err p.2)

pub returns-in_err-store_anchor-clause-asks : goal.returns-in_err-store_anchor-clause-asks
returns-in_err-store_anchor-clause-asks g c =
    let p = err_from_is_err_and c.from_residual-in_err-store_anchor.result c.from_residual-in_err-store_anchor.ensures.1 in
    anchors_given g.D.Disk.bytes g.D.Disk.clock g.D.Disk.images_since c.args.block.now c.args.height c.args.self.now.store.journal c.refresh.new.self.store.journal
    c.in_ok-refresh.ensures.ok c.refresh.ensures.any_moment c.refresh.new.self.store.records c.refresh.ensures.records c.store_anchor.new.self.store.journal c.in_ok-anchor.anchor
    c.from_residual-in_err-store_anchor.result c.store_anchor.result c.in_ok-anchor.ensures.found c.store_anchor.ensures.added
    (p.1 ∙ ap Err p.2 ∙ sym (ap (anchor_answer c.in_ok-anchor.anchor) c.in_err-store_anchor.was))

pub returns-in_err-store_anchor-clause-readable : goal.returns-in_err-store_anchor-clause-readable
returns-in_err-store_anchor-clause-readable g c =
    joined g.D.Disk.clock g.D.Disk.images_since c.args.self.now.store.journal.disk c.refresh.new.self.store.journal.disk c.store_anchor.new.self.store.journal.disk StandsForBook StandsForBook StandsForBook
    c.refresh.ensures.readable c.store_anchor.ensures.readable (λ b h. h) (λ b h. h)

pub returns-clause-asks : goal.returns-clause-asks
returns-clause-asks g c =
    anchors_given g.D.Disk.bytes g.D.Disk.clock g.D.Disk.images_since c.args.block.now c.args.height c.args.self.now.store.journal c.refresh.new.self.store.journal
    c.in_ok-refresh.ensures.ok c.refresh.ensures.any_moment c.refresh.new.self.store.records c.refresh.ensures.records c.store_anchor.new.self.store.journal c.in_ok-anchor.anchor
    (Ok c.in_ok-anchor.anchor) c.store_anchor.result c.in_ok-anchor.ensures.found c.store_anchor.ensures.added
    (sym (ap (anchor_answer c.in_ok-anchor.anchor) c.in_ok-store_anchor.was))

pub returns-clause-readable : goal.returns-clause-readable
returns-clause-readable g c =
    joined g.D.Disk.clock g.D.Disk.images_since c.args.self.now.store.journal.disk c.refresh.new.self.store.journal.disk c.store_anchor.new.self.store.journal.disk StandsForBook StandsForBook StandsForBook
    c.refresh.ensures.readable c.store_anchor.ensures.readable (λ b h. h) (λ b h. h)

pub returns-in_err-store_anchor-clause-within : goal.returns-in_err-store_anchor-clause-within
returns-in_err-store_anchor-clause-within g c =
    joined_within g.D.Disk.clock g.D.Disk.images_since c.args.self.now.store.journal c.refresh.new.self.store.journal c.store_anchor.new.self.store.journal
    c.refresh.ensures.within c.in_ok-refresh.ensures.ok.limit c.store_anchor.ensures.within

pub returns-clause-within : goal.returns-clause-within
returns-clause-within g c =
    joined_within g.D.Disk.clock g.D.Disk.images_since c.args.self.now.store.journal c.refresh.new.self.store.journal c.store_anchor.new.self.store.journal
    c.refresh.ensures.within c.in_ok-refresh.ensures.ok.limit c.store_anchor.ensures.within
