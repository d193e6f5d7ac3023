use Rattle.std.proofs.Common.{List, [], subst, sym}
use Rattle.ots_store.specs.declared.tip.Tip.{Tip}
use Rattle.ots_store.specs.Records.{record_of}
use Rattle.ots_store.specs.Progress.{IsProgress}
use Rattle.ots_store.proofs.Opened.{held_more}
use Rattle.ots_store.proofs.Ordered.{orderly}
use Rattle.ots_store.proofs.Recorded.{entry}
use Rattle.ots_store.proofs.opening.hold_next.Goals as goal

pub returns-then-not-may_follow-clause-no : goal.returns-then-not-may_follow-clause-no
returns-then-not-may_follow-clause-no c is before to told follows =
    let r = record_of (entry c.args.kind c.args.payload.now) in
    let progress : IsProgress before c.tips.result.now [] c.args.progress.now = subst (λ (l : List Tip). IsProgress before l [] c.args.progress.now) (sym c.tips.ensures) to.progress in
    c.may_follow.ensures.no c.if-not-may_follow.true before r (orderly before to.order) progress c.in-Some.ensures.1 follows

pub returns-clause-yes : goal.returns-clause-yes
returns-clause-yes c is before to =
    let r = record_of (entry c.args.kind c.args.payload.now) in
    let yes_it = c.if-not-may_follow.false in
    let o = orderly before to.order in
    let progress : IsProgress before c.tips.result.now [] c.args.progress.now = subst (λ (l : List Tip). IsProgress before l [] c.args.progress.now) (sym c.tips.ensures) to.progress in
    held_more before (entry c.args.kind c.args.payload.now) c.args.lists.now c.stage.new.self c.keep.new.self c.args.progress.now c.may_follow.new.progress to c.in-Some.ensures.0
    (c.may_follow.ensures.yes yes_it before r o progress c.in-Some.ensures.1) (c.may_follow.ensures.commits yes_it before r progress c.in-Some.ensures.1) (c.may_follow.ensures.covered yes_it before r o progress c.in-Some.ensures.1)
    c.may_follow.ensures.passed c.in_ok-stage.ensures.ok c.keep.ensures.holds
