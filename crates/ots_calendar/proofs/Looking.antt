-- Records that are looked at one after another.
use Rattle.std.proofs.Common.{◌≡◌, ℕ, zero, suc, ◌+◌, ◌<◌, ◌≤◌, max, Bool, true, false, List, [], ◌∷◌, ◌++◌, length, take, drop, get_or, refl, sym, ap, subst, ◌∙◌, arith, length-append, append_assoc}
use Rattle.std.proofs.lemmas.Bool.{le-leb, lt-ltb, le-ltb}
use Rattle.std.proofs.lemmas.List.{append-nil, take_more, length-take-le}
use Rattle.std.proofs.lemmas.Option.{get_or_from_slice_get, slice_get_within, slice_get-map, slice_get-get_or, slice_get_past}
use Rattle.std.specs.Option.{option_map, option_copied}
use Rattle.std.specs.Prelude.{Option, Some, None, find, slice_get, nat_le, ◌&&◌, ◌^◌, MatchOption, Result, Ok, Err, OnOk}
use Rattle.std.proofs.Common.{Bor}
use Rattle.std.specs.List.{AllByRecursion}
use Rattle.ots_journal.specs.declared.entry.Entry.{Entry}
use Rattle.ots_store.specs.declared.anchor.Anchor.{Anchor}
use Rattle.ots_store.specs.declared.tip.Tip.{Tip}
use Rattle.ots_store.specs.Order.{tip_in, anchor_in, commits_of, tips_of, anchors_of, anchor_end, covered_by, covered_of, covers, Follows, FollowsTip, FollowsAnchor, InOrder, records_of}
use Rattle.ots_store.specs.Ranges.{Orderly}
use Rattle.ots_store.specs.Records.{Record, CommitRecord, TipRecord, AnchorRecord, tip_at, anchor_at, entry_of, record_of, IsRecord}
use Rattle.ots_store.proofs.Ordered.{commits_append, tips_append, anchors_append, covered_append, orderly, span_within}
use Rattle.ots_store.proofs.Recorded.{entry}
use Rattle.ots_store.proofs.Tipped.{all_append}
use Rattle.ots_store.specs.Store.{InRecords}
use Rattle.ots_calendar.specs.declared.values.Seen.{Seen}
use Rattle.ots_calendar.specs.Seen.{IsSeen, IsTipAt, IsAnchorAt}
use Rattle.ots_calendar.specs.Values.{IsTrueTip, IsTrueAnchor, IsTrue, AreTrue, FirstUntrue}

-- ---- by its kind

pub kind_tip : (kind : ℕ) (payload : List ℕ) → kind ≡ 2 → record_of (entry kind payload) ≡ TipRecord (tip_at payload)
kind_tip kind payload is = subst (λ (k : ℕ). record_of (entry k payload) ≡ TipRecord (tip_at payload)) (sym is) refl

pub kind_anchor : (kind : ℕ) (payload : List ℕ) → kind ≡ 3 → record_of (entry kind payload) ≡ AnchorRecord (anchor_at payload)
kind_anchor kind payload is = subst (λ (k : ℕ). record_of (entry k payload) ≡ AnchorRecord (anchor_at payload)) (sym is) refl

-- ---- the record at a place

order_left : (before xs ys : List Record) → InOrder before (xs ++ ys) → InOrder before xs
order_left before [] ys order = tt
order_left before (x ∷ xs) ys order = (order.0, order_left (before ++ x ∷ []) xs ys order.1)

order_right : (before xs ys : List Record) → InOrder before (xs ++ ys) → InOrder (before ++ xs) ys
order_right before [] ys order = subst (λ (l : List Record). InOrder l ys) (sym (append-nil before)) order
order_right before (x ∷ xs) ys order = subst (λ (l : List Record). InOrder l ys) (append_assoc before (x ∷ []) xs) (order_right (before ++ x ∷ []) xs ys order.1)

split : (records : List Record) (i : ℕ) (r : Record) → slice_get records i ≡ Some r → records ≡ take i records ++ r ∷ drop (suc i) records
split [] i r is = absurd (cc)
split (x ∷ records) zero r is = ap (λ (y : Record). y ∷ records) (let same : x ≡ r = cc in same)
split (x ∷ records) (suc i) r is = ap (λ (l : List Record). x ∷ l) (split records i r is)

record-at-place : (records : List Record) (i : ℕ) (r : Record) → slice_get records i ≡ Some r → take (i + 1) records ≡ take i records ++ r ∷ []
record-at-place records i r is =
    take_more records i r (slice_get_within records i r is) ∙ ap (λ (x : Record). take i records ++ x ∷ []) (get_or_from_slice_get records i r r is)

pub tips_next : (records : List Record) (i : ℕ) (r : Record) → slice_get records i ≡ Some r → length (tips_of (take (i + 1) records)) ≡ length (tips_of (take i records)) + length (tip_in r)
tips_next records i r is =
    ap (λ (l : List Record). length (tips_of l)) (record-at-place records i r is)
    ∙ ap length (tips_append (take i records) (r ∷ []) ∙ ap (λ (l : List Tip). tips_of (take i records) ++ l) (append-nil (tip_in r)))
    ∙ length-append (tips_of (take i records)) (tip_in r)

pub covered_next : (records : List Record) (i : ℕ) (r : Record) → slice_get records i ≡ Some r → covered_of (take (i + 1) records) ≡ max (covered_of (take i records)) (covered_by (anchor_in r))
covered_next records i r is =
    ap covered_of (record-at-place records i r is)
    ∙ ap covered_by (anchors_append (take i records) (r ∷ []) ∙ ap (λ (l : List Anchor). anchors_of (take i records) ++ l) (append-nil (anchor_in r)))
    ∙ covered_append (anchors_of (take i records)) (anchor_in r)

follows_at : (records : List Record) (i : ℕ) (r : Record) → InOrder [] records → slice_get records i ≡ Some r → Follows (take i records) r
follows_at records i r order is = (order_right [] (take i records) (r ∷ drop (suc i) records) (subst (InOrder []) (split records i r is) order)).0

orderly_at : (records : List Record) (i : ℕ) (r : Record) → InOrder [] records → slice_get records i ≡ Some r → Orderly (take i records)
orderly_at records i r order is = orderly (take i records) (order_left [] (take i records) (r ∷ drop (suc i) records) (subst (InOrder []) (split records i r is) order))

fewer_commits : (records : List Record) (i : ℕ) (r : Record) → slice_get records i ≡ Some r → length (commits_of (take i records)) ≤ length (commits_of records)
fewer_commits records i r is =
    let all : length (commits_of records) ≡ length (commits_of (take i records)) + length (commits_of (r ∷ drop (suc i) records)) =
    ap (λ (l : List Record). length (commits_of l)) (split records i r is) ∙ ap length (commits_append (take i records) (r ∷ drop (suc i) records))
    ∙ length-append (commits_of (take i records)) (commits_of (r ∷ drop (suc i) records)) in
    omega arith

-- a tip
pub tip_some : (records : List Record) (i : ℕ) (t : Tip) → InOrder [] records → slice_get records i ≡ Some (TipRecord t) → (1 ≤ t.count) × (t.first + t.count ≤ length (commits_of records))
tip_some records i t order is =
    let f : FollowsTip (take i records) t = follows_at records i (TipRecord t) order is in
    (f.some, omega (arith, f.ends, fewer_commits records i (TipRecord t) is))

at_seam : {A : Type 0} (xs : List A) (x : A) (ys : List A) (d : A) → get_or (xs ++ x ∷ ys) (length xs) d ≡ x
at_seam [] x ys d = refl
at_seam (y ∷ xs) x ys d = at_seam xs x ys d

pub tip_there : (records : List Record) (i : ℕ) (t d : Tip) → slice_get records i ≡ Some (TipRecord t)
    → (length (tips_of (take i records)) < length (tips_of records)) × (get_or (tips_of records) (length (tips_of (take i records))) d ≡ t)
tip_there records i t d is =
    let rest : List Record = drop (suc i) records in
    let all : tips_of records ≡ tips_of (take i records) ++ t ∷ tips_of rest = ap tips_of (split records i (TipRecord t) is) ∙ tips_append (take i records) (TipRecord t ∷ rest) in (
      omega (arith, ap length all, length-append (tips_of (take i records)) (t ∷ tips_of rest)),
      ap (λ (l : List Tip). get_or l (length (tips_of (take i records))) d) all ∙ at_seam (tips_of (take i records)) t (tips_of rest) d,
    )

-- an anchor
pub anchor_some : (records : List Record) (i : ℕ) (a : Anchor) → InOrder [] records → slice_get records i ≡ Some (AnchorRecord a) → (1 ≤ a.count) × (a.first + a.count ≤ length (commits_of records))
anchor_some records i a order is =
    let f : FollowsAnchor (take i records) a = follows_at records i (AnchorRecord a) order is in
    let o : Orderly (take i records) = orderly_at records i (AnchorRecord a) order is in
    let s = span_within (covered_of (take i records)) (length (commits_of (take i records))) a.first a.count (tips_of (take i records)) o.tips f.tip in
    (omega (arith, s.0, f.past), omega (arith, s.1, fewer_commits records i (AnchorRecord a) is))

covers_not : (c : ℕ) (a : Anchor) → anchor_end a ≤ c → covers c a ≡ false
covers_not c a ends = rw (le-ltb c (anchor_end a) ends) (never (nat_le a.first c))
  where
    never : (b : Bool) → (b && false) ≡ false
    never true = refl
    never false = refl

find_after : (c : ℕ) (anchors : List Anchor) (a : Anchor) (rest : List Anchor) → covered_by anchors ≤ c → covers c a ≡ true → find (covers c) (anchors ++ a ∷ rest) ≡ Some a
find_after c [] a rest less is = rw is refl
find_after c (x ∷ anchors) a rest less is = rw (covers_not c x (omega arith)) (find_after c anchors a rest (omega arith) is)

pub anchor_there : (records : List Record) (i : ℕ) (a : Anchor) → InOrder [] records → slice_get records i ≡ Some (AnchorRecord a) → find (covers (covered_of (take i records))) (anchors_of records) ≡ Some a
anchor_there records i a order is =
    let rest : List Record = drop (suc i) records in
    let before : List Record = take i records in
    let all : anchors_of records ≡ anchors_of before ++ a ∷ anchors_of rest = ap anchors_of (split records i (AnchorRecord a) is) ∙ anchors_append before (AnchorRecord a ∷ rest) in
    let f : FollowsAnchor before a = follows_at records i (AnchorRecord a) order is in
    let o : Orderly before = orderly_at records i (AnchorRecord a) order is in
    let s = span_within (covered_of before) (length (commits_of before)) a.first a.count (tips_of before) o.tips f.tip in
    let here : covers (covered_of before) a ≡ true = rw (le-leb a.first (covered_of before) s.0, lt-ltb (covered_of before) (anchor_end a) f.past) refl in
    ap (find (covers (covered_of before))) all ∙ find_after (covered_of before) (anchors_of before) a (anchors_of rest) (omega arith) here

-- ---- what is found there

tips_few : (records : List Record) → length (tips_of records) ≤ length records
tips_few [] = omega arith
tips_few (CommitRecord c ∷ records) = omega (arith, tips_few records)
tips_few (TipRecord t ∷ records) = omega (arith, tips_few records)
tips_few (AnchorRecord a ∷ records) = omega (arith, tips_few records)

place_few : (records : List Record) (i : ℕ) → i < length records → length (tips_of (take i records)) ≤ i
place_few records i less = omega (arith, tips_few (take i records), length-take-le i records (omega arith))

-- the record that an entry at a place spells
spells : (records : List Record) (entries : List Entry) (i : ℕ) (e : Entry) → records ≡ records_of entries → slice_get entries i ≡ Some e → slice_get records i ≡ Some (record_of e)
spells records entries i e same is = ap (λ (l : List Record). slice_get l i) same ∙ slice_get-map record_of entries i ∙ ap (option_map record_of) is

-- Each of the entries spells a record.
each_at : (entries : List Entry) (i : ℕ) (e : Entry) → AllByRecursion IsRecord entries → slice_get entries i ≡ Some e → IsRecord e
each_at [] i e each is = absurd (cc)
each_at (x ∷ entries) zero e each is = let same : x ≡ e = cc in subst IsRecord same each.0
each_at (x ∷ entries) (suc i) e each is = each_at entries i e each.1 is

kind_is : (e : Entry) (r : Record) → IsRecord e → record_of e ≡ r → e.kind ≡ (entry_of r).kind
kind_is e r is same = ap (λ (x : Entry). x.kind) is.spelled ∙ ap (λ (x : Record). (entry_of x).kind) same

module _ (records : List Record) (entries : List Entry) (i : ℕ) (seen : Seen) (kind : ℕ) (payload : List ℕ)
    (same : records ≡ records_of entries) (are : InRecords entries) (few : length (commits_of records) < 2 ^ 32) (less : i < length records)
    (is : slice_get entries i ≡ Some (entry kind payload)) (seen_is : IsSeen records i seen) where
  there : slice_get records i ≡ Some (record_of (entry kind payload))
  there = spells records entries i (entry kind payload) same is

  order : InOrder [] records
  order = subst (InOrder []) (sym same) are.order

  kinds : (r : Record) → slice_get records i ≡ Some r → kind ≡ (entry_of r).kind
  kinds r at =
      let one : record_of (entry kind payload) ≡ r = (let both : Some (record_of (entry kind payload)) ≡ Some r = sym there ∙ at in cc) in
      kind_is (entry kind payload) r (each_at entries i (entry kind payload) are.each is) one

  pub no_tip : (kind ≡ 2 → ⊥) → (t : Tip) → slice_get records i ≡ Some (TipRecord t) → ⊥
  no_tip other t at = other (kinds (TipRecord t) at)

  pub no_anchor : (kind ≡ 3 → ⊥) → (a : Anchor) → slice_get records i ≡ Some (AnchorRecord a) → ⊥
  no_anchor other a at = other (kinds (AnchorRecord a) at)

  pub tip_found : kind ≡ 2 → (o : Option Tip) → o ≡ slice_get (tips_of records) seen.tips → MatchOption o ((t : Tip) → slice_get records i ≡ Some (TipRecord t) → ⊥) (IsTipAt records i)
  tip_found two o looked =
      let t : Tip = tip_at payload in
      let at : slice_get records i ≡ Some (TipRecord t) = there ∙ ap (λ (r : Record). Some r) (kind_tip kind payload two) in
      let found = tip_there records i t t at in
      let bounds = tip_some records i t order at in
      let some : o ≡ Some t = looked ∙ ap (slice_get (tips_of records)) seen_is.tips ∙ slice_get-get_or (tips_of records) (length (tips_of (take i records))) t found.0 ∙ ap (λ (x : Tip). Some x) found.1 in
      subst (λ (x : Option Tip). MatchOption x ((y : Tip) → slice_get records i ≡ Some (TipRecord y) → ⊥) (IsTipAt records i)) (sym some)
      (record { is = at; some = bounds.0; within = bounds.1; few = few; before = place_few records i less })

  pub anchor_found : kind ≡ 3 → (o : Option Anchor) → o ≡ find (covers seen.covered) (anchors_of records) → MatchOption o ((a : Anchor) → slice_get records i ≡ Some (AnchorRecord a) → ⊥) (IsAnchorAt records i)
  anchor_found three o looked =
      let a : Anchor = anchor_at payload in
      let at : slice_get records i ≡ Some (AnchorRecord a) = there ∙ ap (λ (r : Record). Some r) (kind_anchor kind payload three) in
      let bounds = anchor_some records i a order at in
      let some : o ≡ Some a = looked ∙ ap (λ (n : ℕ). find (covers n) (anchors_of records)) seen_is.covered ∙ anchor_there records i a order at in
      let f : FollowsAnchor (take i records) a = follows_at records i (AnchorRecord a) order at in
      subst (λ (x : Option Anchor). MatchOption x ((y : Anchor) → slice_get records i ≡ Some (AnchorRecord y) → ⊥) (IsAnchorAt records i)) (sym some)
      (record { is = at; past = f.past; some = bounds.0; within = bounds.1; few = few })

-- ---- one record more was looked at

pub seen_tip : (records : List Record) (i : ℕ) (seen : Seen) (t : Tip) → IsSeen records i seen → IsTipAt records i t → IsSeen records (i + 1) (record { tips = seen.tips + 1; covered = seen.covered })
seen_tip records i seen t seen_is at = record {
  tips = omega (arith, seen_is.tips, tips_next records i (TipRecord t) at.is);
  covered = omega (arith, seen_is.covered, covered_next records i (TipRecord t) at.is);
}

pub seen_anchor : (records : List Record) (i : ℕ) (seen : Seen) (a : Anchor) → IsSeen records i seen → IsAnchorAt records i a → IsSeen records (i + 1) (record { tips = seen.tips; covered = a.first + a.count })
seen_anchor records i seen a seen_is at = record {
  tips = omega (arith, seen_is.tips, tips_next records i (AnchorRecord a) at.is);
  covered = omega (arith, at.past, covered_next records i (AnchorRecord a) at.is);
}

-- what is neither
other_tips : (records : List Record) (i : ℕ) (r : Record) → ((t : Tip) → slice_get records i ≡ Some (TipRecord t) → ⊥) → slice_get records i ≡ Some r → tip_in r ≡ []
other_tips records i (CommitRecord c) none at = refl
other_tips records i (TipRecord t) none at = absurd (none t at)
other_tips records i (AnchorRecord a) none at = refl

other_anchors : (records : List Record) (i : ℕ) (r : Record) → ((a : Anchor) → slice_get records i ≡ Some (AnchorRecord a) → ⊥) → slice_get records i ≡ Some r → anchor_in r ≡ []
other_anchors records i (CommitRecord c) none at = refl
other_anchors records i (TipRecord t) none at = refl
other_anchors records i (AnchorRecord a) none at = absurd (none a at)

pub seen_other : (records : List Record) (i : ℕ) (seen : Seen) → i < length records → ((t : Tip) → slice_get records i ≡ Some (TipRecord t) → ⊥) → ((a : Anchor) → slice_get records i ≡ Some (AnchorRecord a) → ⊥)
    → IsSeen records i seen → IsSeen records (i + 1) seen
seen_other records i seen less no_tip no_anchor seen_is =
    let r : Record = get_or records i (CommitRecord []) in
    let at : slice_get records i ≡ Some r = slice_get-get_or records i (CommitRecord []) less in
    record {
      tips = omega (arith, seen_is.tips, tips_next records i r at, ap length (other_tips records i r no_tip at));
      covered = omega (arith, seen_is.covered, covered_next records i r at, ap covered_by (other_anchors records i r no_anchor at));
    }

pub other_true : (records : List Record) (commits : List (List ℕ)) (i : ℕ) (r : Record) → ((t : Tip) → slice_get records i ≡ Some (TipRecord t) → ⊥) → ((a : Anchor) → slice_get records i ≡ Some (AnchorRecord a) → ⊥)
    → slice_get records i ≡ Some r → IsTrue commits r
other_true records commits i (CommitRecord c) no_tip no_anchor at = tt
other_true records commits i (TipRecord t) no_tip no_anchor at = absurd (no_tip t at)
other_true records commits i (AnchorRecord a) no_tip no_anchor at = absurd (no_anchor a at)

-- what is said of the record at a place
pub of_tip : (records : List Record) (commits : List (List ℕ)) (i : ℕ) (t : Tip) (r : Record) → slice_get records i ≡ Some (TipRecord t) → slice_get records i ≡ Some r → (IsTrueTip commits t → IsTrue commits r) × (IsTrue commits r → IsTrueTip commits t)
of_tip records commits i t r at is =
    let same : TipRecord t ≡ r = (let both : Some (TipRecord t) ≡ Some r = sym at ∙ is in cc) in
    (λ one. subst (IsTrue commits) same one, λ one. subst (IsTrue commits) (sym same) one)

pub of_anchor : (records : List Record) (commits : List (List ℕ)) (i : ℕ) (a : Anchor) (r : Record) → slice_get records i ≡ Some (AnchorRecord a) → slice_get records i ≡ Some r
    → (IsTrueAnchor commits a → IsTrue commits r) × (IsTrue commits r → IsTrueAnchor commits a)
of_anchor records commits i a r at is =
    let same : AnchorRecord a ≡ r = (let both : Some (AnchorRecord a) ≡ Some r = sym at ∙ is in cc) in
    (λ one. subst (IsTrue commits) same one, λ one. subst (IsTrue commits) (sym same) one)

-- the records so far
pub all_further : (records : List Record) (commits : List (List ℕ)) (i : ℕ) → i < length records → AllByRecursion (IsTrue commits) (take i records) → ((r : Record) → slice_get records i ≡ Some r → IsTrue commits r)
    → AllByRecursion (IsTrue commits) (take (i + 1) records)
all_further records commits i less so_far one =
    let r : Record = get_or records i (CommitRecord []) in
    let at : slice_get records i ≡ Some r = slice_get-get_or records i (CommitRecord []) less in
    subst (AllByRecursion (IsTrue commits)) (sym (record-at-place records i r at)) (all_append (IsTrue commits) (take i records) (r ∷ []) so_far (one r at, tt))

-- ---- answers

pub on_any : {A E P : Type 0} (result : Result A E) → P → OnOk result P
on_any (Ok x) p = p
on_any (Err e) p = tt

-- what is told of a copy is told of what is referred to
pub copied_match : {A : Type 0} (N : Type 0) (P : A → Type 0) (o : Option (Bor A)) → MatchOption (option_copied o) N P → MatchOption o N (λ x. P x.now)
copied_match N P None m = m
copied_match N P (Some x) m = m

-- what is told of the item at a place
pub match_there : {A : Type 0} (N : Type 0) (P : A → Type 0) (xs : List A) (i : ℕ) (d : A) → i < length xs → MatchOption (slice_get xs i) N P → P (get_or xs i d)
match_there N P xs i d less m = subst (λ (o : Option _). MatchOption o N P) (slice_get-get_or xs i d less) m

pub match_past : {A : Type 0} (N : Type 0) (P : A → Type 0) (xs : List A) (i : ℕ) → length xs ≤ i → MatchOption (slice_get xs i) N P → N
match_past N P xs i past m = subst (λ (o : Option _). MatchOption o N P) (slice_get_past xs i past) m

-- where all values are right, none is the first that is not
true_at : (P : Record → Type 0) (records : List Record) (i : ℕ) (r : Record) → AllByRecursion P records → slice_get records i ≡ Some r → P r
true_at P [] i r all is = absurd (cc)
true_at P (x ∷ records) zero r all is = let same : x ≡ r = cc in subst P same all.0
true_at P (x ∷ records) (suc i) r all is = true_at P records i r all.1 is

pub none_untrue : (records : List Record) (i : ℕ) → AreTrue records → FirstUntrue records i → ⊥
none_untrue records i all bad =
    let r : Record = get_or records i (CommitRecord []) in
    let at : slice_get records i ≡ Some r = slice_get-get_or records i (CommitRecord []) bad.there in
    bad.untrue r at (true_at (IsTrue (commits_of records)) records i r all at)

pub found_untrue : (records : List Record) (o : Option ℕ) (i : ℕ) → AreTrue records → MatchOption o (AreTrue records) (FirstUntrue records) → o ≡ Some i → ⊥
found_untrue records o i all m is = none_untrue records i all (subst (λ (x : Option ℕ). MatchOption x (AreTrue records) (FirstUntrue records)) is m)
