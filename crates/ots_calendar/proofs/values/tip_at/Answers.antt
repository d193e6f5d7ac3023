use Rattle.std.proofs.Common.{ap, arith, List, []}
use Rattle.std.specs.Prelude.{slice_get}
use Rattle.ots_store.specs.declared.tip.Tip.{Tip}
use Rattle.ots_calendar.specs.Seen.{IsTipAt}
use Rattle.ots_calendar.proofs.Looking.{no_tip, tip_found, match_there, match_past}
use Rattle.ots_calendar.proofs.values.tip_at.Goals as goal

pub returns-then-kind-ne-TIP : goal.returns-then-kind-ne-TIP
returns-then-kind-ne-TIP g c =
    no_tip c.args.store.now.records c.args.store.now.journal.entries c.args.i c.args.seen.now c.entry-kind.result.0 c.entry-kind.result.1.now
    c.stands.ensures.records c.stands.ensures.are (omega (arith, c.commits.ensures.count, c.commits.ensures.bound)) c.requires.there c.entry-kind.ensures c.requires.seen c.if-kind-ne-TIP.true

pub returns-then-seen-tips : goal.returns-then-seen-tips
returns-then-seen-tips g c =
    match_there _ (IsTipAt c.args.store.now.records c.args.i) c.tips-tips.result.now c.args.seen.now.tips (record { first = 0; count = 0; root = [] }) c.if-seen-tips.true
    (tip_found c.args.store.now.records c.args.store.now.journal.entries c.args.i c.args.seen.now c.entry-kind.result.0 c.entry-kind.result.1.now
    c.stands.ensures.records c.stands.ensures.are (omega (arith, c.commits.ensures.count, c.commits.ensures.bound)) c.requires.there c.entry-kind.ensures c.requires.seen c.if-kind-ne-TIP.false
    (slice_get c.tips-tips.result.now c.args.seen.now.tips) (ap (λ (l : List Tip). slice_get l c.args.seen.now.tips) c.tips-tips.ensures))

pub returns-else-seen-tips : goal.returns-else-seen-tips
returns-else-seen-tips g c =
    match_past _ (IsTipAt c.args.store.now.records c.args.i) c.tips-tips.result.now c.args.seen.now.tips (omega arith)
    (tip_found c.args.store.now.records c.args.store.now.journal.entries c.args.i c.args.seen.now c.entry-kind.result.0 c.entry-kind.result.1.now
    c.stands.ensures.records c.stands.ensures.are (omega (arith, c.commits.ensures.count, c.commits.ensures.bound)) c.requires.there c.entry-kind.ensures c.requires.seen c.if-kind-ne-TIP.false
    (slice_get c.tips-tips.result.now c.args.seen.now.tips) (ap (λ (l : List Tip). slice_get l c.args.seen.now.tips) c.tips-tips.ensures))
