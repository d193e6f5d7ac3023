use Rattle.std.proofs.Common.{◌++◌, List, [], ℕ, subst}
use Rattle.ots_store.specs.Forms.{IsForm}
use Rattle.ots_store.specs.Order.{records_of}
use Rattle.ots_store.specs.Records.{IsRecord, record_of}
use Rattle.ots_store.proofs.Opened.{follow_more}
use Rattle.ots_store.proofs.Ordered.{orderly, order_append}
use Rattle.ots_store.proofs.Recorded.{entry}
use Rattle.ots_store.proofs.opening.follows_next.Goals as goal

pub returns-in-Some-clause-yes : goal.returns-in-Some-clause-yes
returns-in-Some-clause-yes c is before order to =
    let e = c.args.entry.now in
    let all = before ++ records_of c.args.group.now in
    let told : IsRecord e = subst (λ (p : List ℕ). IsRecord (entry e.kind p)) c.items.ensures c.in-Some.ensures.0 in
    let form : IsForm c.in-Some.form (record_of e) = subst (λ (p : List ℕ). IsForm c.in-Some.form (record_of (entry e.kind p))) c.items.ensures c.in-Some.ensures.1 in
    let o = orderly all (order_append [] before (records_of c.args.group.now) order to.are.order) in
    follow_more before c.args.group.now e c.args.tips.now c.args.progress.now c.may_follow.new.progress to told
    (c.may_follow.ensures.yes is all (record_of e) o to.progress form) (c.may_follow.ensures.commits is all (record_of e) to.progress form) (c.may_follow.ensures.covered is all (record_of e) o to.progress form)

pub returns-in-Some-clause-no : goal.returns-in-Some-clause-no
returns-in-Some-clause-no c is before order to told follows =
    let e = c.args.entry.now in
    let all = before ++ records_of c.args.group.now in
    let form : IsForm c.in-Some.form (record_of e) = subst (λ (p : List ℕ). IsForm c.in-Some.form (record_of (entry e.kind p))) c.items.ensures c.in-Some.ensures.1 in
    let o = orderly all (order_append [] before (records_of c.args.group.now) order to.are.order) in
    c.may_follow.ensures.no is all (record_of e) o to.progress form follows
