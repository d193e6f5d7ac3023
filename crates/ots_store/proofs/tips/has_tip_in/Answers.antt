use Rattle.std.proofs.Common.{sym, subst}
use Rattle.ots_journal.specs.declared.entry.Entry.{Entry}
use Rattle.ots_store.specs.Order.{HasSpan, tip_in}
use Rattle.ots_store.specs.Records.{IsRecord, record_of}
use Rattle.ots_store.proofs.Tipped.{group_has, group_has_not, record_there}
use Rattle.ots_store.proofs.tips.has_tip_in.Goals as goal

pub loop-entry-preserved : goal.loop-entry-preserved
loop-entry-preserved c =
    let group = c.args.group.now in
    let first = c.args.span.now.first in
    let count = c.args.span.now.count in
    let here : HasSpan first count (tip_in (record_of c.entry-item.result)) → ⊥ =
    c.is_tip.ensures.no c.if-is_tip.false (subst IsRecord (sym c.entry-item.is) (record_there group c.loop-entry.entry-index c.entry-item.result c.loop-entry-test.true c.requires)) in
    group_has_not first count group c.loop-entry.entry-index c.entry-item.result c.loop-entry-test.true c.loop-entry.invariant (subst (λ (e : Entry). HasSpan first count (tip_in (record_of e)) → ⊥) c.entry-item.is here)

pub returns-then-is_tip-clause-yes : goal.returns-then-is_tip-clause-yes
returns-then-is_tip-clause-yes c is =
    let group = c.args.group.now in
    let first = c.args.span.now.first in
    let count = c.args.span.now.count in
    let here : HasSpan first count (tip_in (record_of c.entry-item.result)) =
    c.is_tip.ensures.yes c.if-is_tip.true (subst IsRecord (sym c.entry-item.is) (record_there group c.loop-entry.entry-index c.entry-item.result c.loop-entry-test.true c.requires)) in
    group_has first count group c.loop-entry.entry-index c.entry-item.result c.loop-entry-test.true (subst (λ (e : Entry). HasSpan first count (tip_in (record_of e))) c.entry-item.is here)
