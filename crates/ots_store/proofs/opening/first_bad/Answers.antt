use Rattle.std.proofs.Common.{◌≡◌, ◌++◌, ◌∷◌, ◌+◌, List, [], subst, sym, take, get_or, arith}
use Rattle.std.proofs.lemmas.List.{take_more}
use Rattle.ots_journal.specs.declared.entry.Entry.{Entry}
use Rattle.ots_store.specs.Opening.{FollowTo}
use Rattle.ots_store.specs.Order.{InOrder, Follows, records_of}
use Rattle.ots_store.specs.Progress.{Passed}
use Rattle.ots_store.specs.Records.{Record, IsRecord, record_of}
use Rattle.ots_store.proofs.Opened.{passed_more, bad_at, each_more, get_there}
use Rattle.ots_store.proofs.opening.first_bad.Goals as goal

pub loop-i-preserved : goal.loop-i-preserved
loop-i-preserved c =
    let entries = c.args.entries.now in
    let tips = c.args.tips.now in
    let i = c.loop-i.i in
    let e = c.index-entries-i.result in
    let new = c.follows_next.new.progress in
    let yes_it = c.if-not-follows_next.false in
    let one : IsRecord (get_or entries i e) = subst IsRecord c.index-entries-i.is (c.follows_next.ensures.is yes_it) in
    let more : take i entries ++ get_or entries i e ∷ [] ≡ take (i + 1) entries = sym (take_more entries i e c.loop-i-test.true) in
    let passed : Passed (take i entries) new = c.follows_next.ensures.passed in
    let step : (records : List Record) → InOrder [] records → FollowTo records (take i entries) tips c.loop-i.progress → FollowTo records (take i entries ++ e ∷ []) tips new =
    c.follows_next.ensures.yes yes_it in
    record {
      each = each_more entries i e c.loop-i-test.true c.loop-i.invariant.each one;
      passed = subst (λ (l : List Entry). Passed l new) more (passed_more (take i entries) (get_or entries i e ∷ []) new passed);
      few = omega (arith, c.follows_next.ensures.few, c.loop-i.invariant.few);
      follow = λ records order progress.
          subst (λ (l : List Entry). FollowTo records l tips new) more
          (subst (λ (x : Entry). FollowTo records (take i entries ++ x ∷ []) tips new) c.index-entries-i.is (step records order (c.loop-i.invariant.follow records order progress)));
    }

pub returns-then-not-follows_next : goal.returns-then-not-follows_next
returns-then-not-follows_next c records order progress =
    let entries = c.args.entries.now in
    let i = c.loop-i.i in
    let e = c.index-entries-i.result in
    let to = c.loop-i.invariant.follow records order progress in
    let never : FollowTo records (take i entries) c.args.tips.now c.loop-i.progress → IsRecord e → Follows (records ++ records_of (take i entries)) (record_of e) → ⊥ =
    c.follows_next.ensures.no c.if-not-follows_next.true records order in
    bad_at records entries i (get_or entries i e) c.loop-i-test.true (get_there entries i e c.loop-i-test.true) to.are
    (subst (λ (x : Entry). IsRecord x → Follows (records ++ records_of (take i entries)) (record_of x) → ⊥) c.index-entries-i.is (never to))
