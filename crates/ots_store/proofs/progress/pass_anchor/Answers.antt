use Rattle.std.proofs.Common.{drop}
use Rattle.std.proofs.lemmas.List.{take_rest}
use Rattle.ots_store.specs.Order.{HasSpan, tips_of, records_of}
use Rattle.ots_store.proofs.Tipped.{has_left, has_right, has_neither, there_in_group, not_in_group}
use Rattle.ots_store.proofs.progress.pass_anchor.Goals as goal
use Rattle.ots_store.proofs.progress.pass_anchor.Goals.{then-has_tip-via-then-has_tip, then-has_tip-via-else-has_tip+then-has_tip_in}

pub returns-then-has_tip-clause-tip : goal.returns-then-has_tip-clause-tip
returns-then-has_tip-clause-tip c is =
    let first = c.args.span.now.first in
    let count = c.args.span.now.count in
    let tips = c.args.tips.now in
    let group = c.args.group.now in
    elim c.then-has_tip.branch [
      | then-has_tip-via-then-has_tip w ↦ has_left first count tips (tips_of (records_of group)) (c.has_tip.ensures.yes w.if-has_tip.true)
      | then-has_tip-via-else-has_tip+then-has_tip_in w ↦ has_right first count tips (tips_of (records_of group)) (there_in_group first count group c.pass_group-progress.result (rw take_rest at (w.has_tip_in.ensures.yes w.if-has_tip_in.true)))
    ]

pub returns-clause-no : goal.returns-clause-no
returns-clause-no c is rise has past =
    let first = c.args.span.now.first in
    let count = c.args.span.now.count in
    let tips = c.args.tips.now in
    let group = c.args.group.now in
    let not_group : HasSpan first count (tips_of (records_of (drop c.pass_group-progress.result group))) → ⊥ = rw take_rest at (c.has_tip_in.ensures.no c.if-has_tip_in.false) in
    has_neither first count tips (tips_of (records_of group))
    (c.has_tip.ensures.no c.if-has_tip.false rise)
    (not_in_group first count c.args.progress.now.covered group c.pass_group-progress.result past (c.pass_group-progress.ensures.passed c.requires.passed.group_ends) not_group)
    has
