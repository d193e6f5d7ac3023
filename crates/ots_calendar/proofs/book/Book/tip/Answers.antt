use Rattle.std.proofs.Common.{ap, sym, ◌∙◌}
use Rattle.std.proofs.lemmas.Result.{err_from_is_err_and}
use Rattle.std.specs.Prelude.{Ok, Err}
use Rattle.ots_journal.specs.Within.{joined_within}
use Rattle.ots_calendar.specs.Tips.{tip_answer}
use Rattle.ots_calendar.proofs.Growing.{tip_grows}
use Rattle.ots_calendar.proofs.Tipping.{asks_nothing, asks_given, finds_grows}
use Rattle.ots_calendar.proofs.book.Book.tip.Goals as goal

pub returns-in_err-store_tip-in-Some-clause-asks : goal.returns-in_err-store_tip-in-Some-clause-asks
returns-in_err-store_tip-in-Some-clause-asks g c =
    let d = g.D.Disk in
    let p = err_from_is_err_and c.from_residual-in_err-store_tip-in-Some.result c.from_residual-in_err-store_tip-in-Some.ensures.1 in
    asks_given d.bytes d.clock d.images_since c.args.self.now.store.journal c.find_tip.new.self.store.journal c.find_tip.result c.in_ok-find_tip.field-0 c.in_ok-find_tip.was c.find_tip.ensures.finds
    c.find_tip.new.self.store.records c.find_tip.ensures.records c.in_ok-find_tip.ensures.next c.store_tip.new.self.store.journal c.in-Some.tip c.from_residual-in_err-store_tip-in-Some.result c.in-Some.is
    c.store_tip.result c.store_tip.ensures.stores (c.store_tip.ensures.not_refused c.in_ok-find_tip.ensures.spare)
    (p.1 ∙ ap Err p.2 ∙ sym (ap (tip_answer c.in-Some.tip) c.in_err-store_tip-in-Some.was))

pub returns-in-None-clause-asks : goal.returns-in-None-clause-asks
returns-in-None-clause-asks g c =
    let d = g.D.Disk in
    asks_nothing d.bytes d.clock d.images_since c.args.self.now.store.journal c.find_tip.new.self.store.journal c.find_tip.result c.in_ok-find_tip.field-0 c.in_ok-find_tip.was c.find_tip.ensures.finds
    c.find_tip.new.self.store.records c.find_tip.ensures.records c.in_ok-find_tip.ensures.next c.in-None.is

pub returns-in_ok-store_tip-in-Some-clause-asks : goal.returns-in_ok-store_tip-in-Some-clause-asks
returns-in_ok-store_tip-in-Some-clause-asks g c =
    let d = g.D.Disk in
    asks_given d.bytes d.clock d.images_since c.args.self.now.store.journal c.find_tip.new.self.store.journal c.find_tip.result c.in_ok-find_tip.field-0 c.in_ok-find_tip.was c.find_tip.ensures.finds
    c.find_tip.new.self.store.records c.find_tip.ensures.records c.in_ok-find_tip.ensures.next c.store_tip.new.self.store.journal c.in-Some.tip (Ok c.in-Some.tip) c.in-Some.is
    c.store_tip.result c.store_tip.ensures.stores (c.store_tip.ensures.not_refused c.in_ok-find_tip.ensures.spare)
    (sym (ap (tip_answer c.in-Some.tip) c.in_ok-store_tip-in-Some.was))

pub returns-in_ok-store_tip-in-Some-clause-grows : goal.returns-in_ok-store_tip-in-Some-clause-grows
returns-in_ok-store_tip-in-Some-clause-grows g c =
    let d = g.D.Disk in
    tip_grows d.bytes d.clock d.images_since c.args.self.now.store.journal c.store_tip.new.self.store.journal (Ok c.in-Some.tip) (returns-in_ok-store_tip-in-Some-clause-asks g c)

pub returns-in_err-store_tip-in-Some-clause-within : goal.returns-in_err-store_tip-in-Some-clause-within
returns-in_err-store_tip-in-Some-clause-within g c =
    let d = g.D.Disk in
    let old = c.args.self.now.store.journal in
    let mid = c.find_tip.new.self.store.journal in
    let found = finds_grows d.bytes d.clock d.images_since old mid c.find_tip.result c.find_tip.ensures.finds in
    joined_within d.clock d.images_since old mid c.store_tip.new.self.store.journal c.find_tip.ensures.within found.limit c.store_tip.ensures.within

pub returns-in_ok-store_tip-in-Some-clause-within : goal.returns-in_ok-store_tip-in-Some-clause-within
returns-in_ok-store_tip-in-Some-clause-within g c =
    let d = g.D.Disk in
    let old = c.args.self.now.store.journal in
    let mid = c.find_tip.new.self.store.journal in
    let found = finds_grows d.bytes d.clock d.images_since old mid c.find_tip.result c.find_tip.ensures.finds in
    joined_within d.clock d.images_since old mid c.store_tip.new.self.store.journal c.find_tip.ensures.within found.limit c.store_tip.ensures.within
