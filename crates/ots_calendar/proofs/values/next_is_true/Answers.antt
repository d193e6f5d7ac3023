use Rattle.ots_calendar.proofs.Looking.{seen_tip, seen_anchor, seen_other, on_any}
use Rattle.ots_calendar.proofs.values.next_is_true.Goals as goal

pub returns-in-Some-clause-seen : goal.returns-in-Some-clause-seen
returns-in-Some-clause-seen g c = on_any c.is_true_tip.result (seen_tip c.args.store.now.records c.args.i c.args.seen.now c.in-Some.tip c.requires.seen c.in-Some.ensures)

pub returns-in-Some-anchor_at-clause-seen : goal.returns-in-Some-anchor_at-clause-seen
returns-in-Some-anchor_at-clause-seen g c =
    on_any c.is_true_anchor.result (seen_anchor c.args.store.now.records c.args.i c.args.seen.now c.in-Some-anchor_at.anchor.now c.requires.seen c.in-Some-anchor_at.ensures)

pub returns-clause-seen : goal.returns-clause-seen
returns-clause-seen g c = seen_other c.args.store.now.records c.args.i c.args.seen.now c.requires.there c.in_default.ensures c.in_default-anchor_at.ensures c.requires.seen
