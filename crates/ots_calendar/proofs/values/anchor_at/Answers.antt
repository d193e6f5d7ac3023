use Rattle.std.proofs.Common.{arith}
use Rattle.std.specs.Option.{option_copied}
use Rattle.ots_calendar.specs.Seen.{IsAnchorAt}
use Rattle.ots_calendar.proofs.Looking.{no_anchor, anchor_found, copied_match}
use Rattle.ots_calendar.proofs.values.anchor_at.Goals as goal

pub returns-then-kind-ne-ANCHOR : goal.returns-then-kind-ne-ANCHOR
returns-then-kind-ne-ANCHOR g c =
    no_anchor c.args.store.now.records c.args.store.now.journal.entries c.args.i c.args.seen.now c.entry-kind.result.0 c.entry-kind.result.1.now
    c.stands.ensures.records c.stands.ensures.are (omega (arith, c.commits.ensures.count, c.commits.ensures.bound)) c.requires.there c.entry-kind.ensures c.requires.seen c.if-kind-ne-ANCHOR.true

pub returns : goal.returns
returns g c =
    copied_match _ (IsAnchorAt c.args.store.now.records c.args.i) c.anchor_of.result
    (anchor_found c.args.store.now.records c.args.store.now.journal.entries c.args.i c.args.seen.now c.entry-kind.result.0 c.entry-kind.result.1.now
    c.stands.ensures.records c.stands.ensures.are (omega (arith, c.commits.ensures.count, c.commits.ensures.bound)) c.requires.there c.entry-kind.ensures c.requires.seen c.if-kind-ne-ANCHOR.false
    (option_copied c.anchor_of.result) c.anchor_of.ensures)
