use Rattle.ots_store.proofs.Tipped.{has_at, has_none_more}
use Rattle.ots_calendar.proofs.book.has_tip.Goals as goal

pub loop-stored-preserved : goal.loop-stored-preserved
loop-stored-preserved c =
    has_none_more c.args.tip.now.first c.args.tip.now.count c.args.tips.now c.loop-stored.stored-index _ c.loop-stored-test.true c.loop-stored.invariant (c.is_same_span.ensures.no c.if-is_same_span.false)

pub returns-then-is_same_span-clause-yes : goal.returns-then-is_same_span-clause-yes
returns-then-is_same_span-clause-yes c is =
    let same = c.is_same_span.ensures.yes c.if-is_same_span.true in
    has_at c.args.tip.now.first c.args.tip.now.count c.args.tips.now c.loop-stored.stored-index _ c.loop-stored-test.true same.0 same.1
