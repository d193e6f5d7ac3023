-- What the order of records gives.
use Rattle.std.proofs.Common.{◌≡◌, inl, inr, ◌<◌, ◌≤◌, ◌^◌, ℕ, ◌+◌, max, List, [], ◌∷◌, ◌++◌, length, sym, ◌∙◌, ap, subst, arith, append_assoc, length-append}
use Rattle.std.proofs.lemmas.List.{append-nil, map-append}
use Rattle.std.proofs.lemmas.List.Concat.{flat_map-append}
use Rattle.std.specs.List.{AllByRecursion}
use Rattle.ots_journal.specs.declared.entry.Entry.{Entry}
use Rattle.ots_store.specs.declared.anchor.Anchor.{Anchor}
use Rattle.ots_store.specs.declared.tip.Tip.{Tip}
use Rattle.ots_store.specs.Records.{Record, CommitRecord, TipRecord, AnchorRecord, record_of, IsRecord}
use Rattle.ots_store.specs.Order.{commit_in, tip_in, anchor_in, commits_of, tips_of, anchors_of, anchor_end, covered_by, covered_of, tip_end, HasSpan, Follows, InOrder, records_of, AreRecords}
use Rattle.ots_store.specs.declared.form.Form.TheVariants as Form
use Rattle.ots_store.specs.declared.form.Span.{Span}
use Rattle.ots_store.specs.declared.progress.Progress.{Progress}
use Rattle.ots_store.specs.Forms.{IsForm}
use Rattle.ots_store.specs.Progress.{IsProgress}
use Rattle.ots_store.specs.Ranges.{RisesFrom, reach, IsWithin, TipsRiseFrom, Orderly}

-- ---- one more

pub order_push : (before records : List Record) (r : Record) → InOrder before records → Follows (before ++ records) r → InOrder before (records ++ r ∷ [])
order_push before [] r order follows = (subst (λ (l : List Record). Follows l r) (append-nil before) follows, tt)
order_push before (x ∷ records) r order follows =
    (order.0, order_push (before ++ x ∷ []) records r order.1 (subst (λ (l : List Record). Follows l r) (sym (append_assoc before (x ∷ []) records)) follows))

pub order_append : (before first second : List Record) → InOrder before first → InOrder (before ++ first) second → InOrder before (first ++ second)
order_append before [] second one two = subst (λ (l : List Record). InOrder l second) (append-nil before) two
order_append before (x ∷ first) second one two =
    (one.0, order_append (before ++ x ∷ []) first second one.1 (subst (λ (l : List Record). InOrder l second) (sym (append_assoc before (x ∷ []) first)) two))

pub each_push : (entries : List Entry) (e : Entry) → AllByRecursion IsRecord entries → IsRecord e → AllByRecursion IsRecord (entries ++ e ∷ [])
each_push [] e each one = (one, tt)
each_push (x ∷ entries) e each one = (each.0, each_push entries e each.1 one)

pub each_append : (first second : List Entry) → AllByRecursion IsRecord first → AllByRecursion IsRecord second → AllByRecursion IsRecord (first ++ second)
each_append [] second one two = two
each_append (x ∷ first) second one two = (one.0, each_append first second one.1 two)

pub none_recorded : (before : List Record) → AreRecords before []
none_recorded before = record { each = tt; order = tt }

pub records_push : (before : List Record) (entries : List Entry) (e : Entry) → AreRecords before entries → IsRecord e → Follows (before ++ records_of entries) (record_of e) → AreRecords before (entries ++ e ∷ [])
records_push before entries e are one follows = record {
  each = each_push entries e are.each one;
  order = subst (λ (l : List Record). InOrder before l) (sym (map-append record_of entries (e ∷ []))) (order_push before (records_of entries) (record_of e) are.order follows);
}

pub records_append : (before : List Record) (first second : List Entry) → AreRecords before first → AreRecords (before ++ records_of first) second → AreRecords before (first ++ second)
records_append before first second one two = record {
  each = each_append first second one.each two.each;
  order = subst (λ (l : List Record). InOrder before l) (sym (map-append record_of first second)) (order_append before (records_of first) (records_of second) one.order two.order);
}

pub record_one : (before : List Record) (e : Entry) → IsRecord e → Follows before (record_of e) → AreRecords before (e ∷ [])
record_one before e one follows = record { each = (one, tt); order = (follows, tt) }

-- ---- the lists of a record more

pub commits_append : (first second : List Record) → commits_of (first ++ second) ≡ commits_of first ++ commits_of second
commits_append first second = flat_map-append commit_in first second

pub tips_append : (first second : List Record) → tips_of (first ++ second) ≡ tips_of first ++ tips_of second
tips_append first second = flat_map-append tip_in first second

pub anchors_append : (first second : List Record) → anchors_of (first ++ second) ≡ anchors_of first ++ anchors_of second
anchors_append first second = flat_map-append anchor_in first second

pub covered_append : (first second : List Anchor) → covered_by (first ++ second) ≡ max (covered_by first) (covered_by second)
covered_append [] second = omega arith
covered_append (a ∷ first) second = omega (arith, covered_append first second)

-- ---- ranges

rises_push : (base : ℕ) (anchors : List Anchor) (a : Anchor) → RisesFrom base anchors → a.first ≤ reach base anchors → reach base anchors < anchor_end a → RisesFrom base (anchors ++ a ∷ [])
rises_push base [] a rises begins past = (begins, past, tt)
rises_push base (x ∷ anchors) a rises begins past = (rises.0, rises.1, rises_push (anchor_end x) anchors a rises.2 begins past)

pub reach_is : (base : ℕ) (anchors : List Anchor) → RisesFrom base anchors → reach base anchors ≡ max base (covered_by anchors)
reach_is base [] rises = omega arith
reach_is base (x ∷ anchors) rises = reach_is (anchor_end x) anchors rises.2 ∙ omega (arith, rises.1)

within_more : (covered covered' commits commits' : ℕ) (tips : List Tip) → covered ≤ covered' → commits ≤ commits' → AllByRecursion (IsWithin covered commits) tips → AllByRecursion (IsWithin covered' commits') tips
within_more covered covered' commits commits' [] le le' all = tt
within_more covered covered' commits commits' (t ∷ tips) le le' all = ((omega (arith, all.0.0), omega (arith, all.0.1)), within_more covered covered' commits commits' tips le le' all.1)

within_push : (covered commits : ℕ) (tips : List Tip) (t : Tip) → AllByRecursion (IsWithin covered commits) tips → IsWithin covered commits t → AllByRecursion (IsWithin covered commits) (tips ++ t ∷ [])
within_push covered commits [] t all one = (one, tt)
within_push covered commits (x ∷ tips) t all one = (all.0, within_push covered commits tips t all.1 one)

-- a tip more, which begins and ends no earlier than any within these
tips_rise_push : (first end covered commits : ℕ) (tips : List Tip) (t : Tip) → first ≤ covered → end ≤ commits → AllByRecursion (IsWithin covered commits) tips → TipsRiseFrom first end tips → t.first ≡ covered → tip_end t ≡ commits
    → TipsRiseFrom first end (tips ++ t ∷ [])
tips_rise_push first end covered commits [] t le le' all rise begins ends = (omega arith, omega arith, tt)
tips_rise_push first end covered commits (x ∷ tips) t le le' all rise begins ends = (rise.0, rise.1, tips_rise_push x.first (tip_end x) covered commits tips t all.0.0 all.0.1 all.1 rise.2 begins ends)

pub span_within : (covered commits first count : ℕ) (tips : List Tip) → AllByRecursion (IsWithin covered commits) tips → HasSpan first count tips → (first ≤ covered) × (first + count ≤ commits)
span_within covered commits first count [] all has = absurd has
span_within covered commits first count (t ∷ tips) all (inl has) = (omega (arith, all.0.0, has.0), omega (arith, all.0.1, has.0, has.1))
span_within covered commits first count (t ∷ tips) all (inr has) = span_within covered commits first count tips all.1 has

-- the records so far, and one more that may follow
pub orderly_none : Orderly []
orderly_none = record { tips = tt; tips_rise = tt; rises = tt; within = omega arith }

orderly_more : (before : List Record) (r : Record) → Orderly before → Follows before r → Orderly (before ++ r ∷ [])
orderly_more before (CommitRecord c) o follows =
    let commits : length (commits_of (before ++ CommitRecord c ∷ [])) ≡ length (commits_of before) + 1 = ap length (commits_append before (CommitRecord c ∷ [])) ∙ length-append (commits_of before) (c ∷ []) in
    let tips : tips_of (before ++ CommitRecord c ∷ []) ≡ tips_of before = tips_append before (CommitRecord c ∷ []) ∙ append-nil (tips_of before) in
    let anchors : anchors_of (before ++ CommitRecord c ∷ []) ≡ anchors_of before = anchors_append before (CommitRecord c ∷ []) ∙ append-nil (anchors_of before) in
    record {
      tips = rw (tips, anchors) (within_more (covered_of before) (covered_of before) (length (commits_of before)) (length (commits_of (before ++ CommitRecord c ∷ []))) (tips_of before) (omega arith) (omega arith) o.tips);
      tips_rise = rw tips o.tips_rise;
      rises = rw anchors o.rises;
      within = rw anchors (omega (arith, commits, o.within));
    }
orderly_more before (TipRecord t) o follows =
    let commits : commits_of (before ++ TipRecord t ∷ []) ≡ commits_of before = commits_append before (TipRecord t ∷ []) ∙ append-nil (commits_of before) in
    let tips : tips_of (before ++ TipRecord t ∷ []) ≡ tips_of before ++ t ∷ [] = tips_append before (TipRecord t ∷ []) in
    let anchors : anchors_of (before ++ TipRecord t ∷ []) ≡ anchors_of before = anchors_append before (TipRecord t ∷ []) ∙ append-nil (anchors_of before) in
    record {
      tips = rw (tips, anchors, commits) (within_push (covered_of before) (length (commits_of before)) (tips_of before) t o.tips (omega (arith, follows.begins), omega (arith, follows.ends)));
      tips_rise = rw tips (tips_rise_push 0 0 (covered_of before) (length (commits_of before)) (tips_of before) t (omega arith) (omega arith) o.tips o.tips_rise follows.begins follows.ends);
      rises = rw anchors o.rises;
      within = rw (anchors, commits) o.within;
    }
orderly_more before (AnchorRecord a) o follows =
    let commits : commits_of (before ++ AnchorRecord a ∷ []) ≡ commits_of before = commits_append before (AnchorRecord a ∷ []) ∙ append-nil (commits_of before) in
    let tips : tips_of (before ++ AnchorRecord a ∷ []) ≡ tips_of before = tips_append before (AnchorRecord a ∷ []) ∙ append-nil (tips_of before) in
    let anchors : anchors_of (before ++ AnchorRecord a ∷ []) ≡ anchors_of before ++ a ∷ [] = anchors_append before (AnchorRecord a ∷ []) in
    let covered : covered_by (anchors_of before ++ a ∷ []) ≡ max (covered_of before) (max (anchor_end a) 0) = covered_append (anchors_of before) (a ∷ []) in
    let last : reach 0 (anchors_of before) ≡ covered_of before = reach_is 0 (anchors_of before) o.rises ∙ omega arith in
    let span = span_within (covered_of before) (length (commits_of before)) a.first a.count (tips_of before) o.tips follows.tip in
    record {
      tips = rw (tips, anchors, commits) (within_more (covered_of before) (covered_by (anchors_of before ++ a ∷ [])) (length (commits_of before)) (length (commits_of before)) (tips_of before) (omega (arith, covered)) (omega arith) o.tips);
      tips_rise = rw tips o.tips_rise;
      rises = rw anchors (rises_push 0 (anchors_of before) a o.rises (omega (arith, last, span.0)) (omega (arith, last, follows.past)));
      within = rw (anchors, commits) (omega (arith, covered, o.within, span.1));
    }

pub orderly_after : (before records : List Record) → Orderly before → InOrder before records → Orderly (before ++ records)
orderly_after before [] o order = subst Orderly (sym (append-nil before)) o
orderly_after before (r ∷ records) o order = subst Orderly (append_assoc before (r ∷ []) records) (orderly_after (before ++ r ∷ []) records (orderly_more before r o order.0) order.1)

pub orderly : (records : List Record) → InOrder [] records → Orderly records
orderly records order = orderly_after [] records orderly_none order

-- an anchor more: so far commitments are covered
pub anchor_covers : (before : List Record) (r : Record) (span : Span) (tips : List Tip) (group : List Entry) (p : Progress) (covered : ℕ)
    → Orderly before → IsProgress before tips group p → IsForm (Form.Anchor span) r → p.commits < 2 ^ 63 → HasSpan span.first span.count (tips ++ tips_of (records_of group))
    → p.covered < span.first + span.count → (span.first + span.count < 2 ^ 64 → covered ≡ span.first + span.count) → covered ≡ covered_of (before ++ r ∷ [])
anchor_covers before (CommitRecord c) span tips group p covered o is form few has past new = absurd form
anchor_covers before (TipRecord t) span tips group p covered o is form few has past new = absurd form
anchor_covers before (AnchorRecord a) span tips group p covered o is form few has past new =
    let there = span_within (covered_of before) (length (commits_of before)) span.first span.count (tips_of before) o.tips (subst (HasSpan span.first span.count) (sym is.tips_are) has) in
    let more : covered_of (before ++ AnchorRecord a ∷ []) ≡ max (covered_of before) (max (anchor_end a) 0) = ap covered_by (anchors_append before (AnchorRecord a ∷ [])) ∙ covered_append (anchors_of before) (a ∷ []) in
    let found : covered ≡ span.first + span.count = new (omega (arith, there.1, is.commits)) in
    omega (arith, found, more, form.0, form.1, is.covered)
