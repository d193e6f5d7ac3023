-- Records whose values are right, and those of one record more.
use Rattle.std.proofs.Common.{◌≡◌, ℕ, ◌≤◌, List, [], ◌∷◌, ◌++◌, length, sym, ap, subst, ◌∙◌, arith}
use Rattle.std.proofs.lemmas.List.{append-nil}
use Rattle.std.specs.List.{AllByRecursion}
use Rattle.ots_anchor.specs.Path.{hashed, led_to}
use Rattle.ots_merkle.specs.CalendarTree.{root}
use Rattle.ots_store.specs.Order.{commit_in, commits_of, tips_of, anchors_of, tip_end, anchor_end, covered_by, covered_of}
use Rattle.ots_store.specs.Ranges.{IsWithin, Orderly}
use Rattle.ots_store.specs.Records.{Record, CommitRecord, TipRecord, AnchorRecord}
use Rattle.ots_store.proofs.Ordered.{commits_append}
use Rattle.ots_calendar.specs.Values.{IsTrue, AreTrue, IsTrueAnchor}
use Rattle.ots_kept_trees.proofs.Leaves.{span_more}

-- so many commitments are enough for a record
abbrev pub EndsBy : ℕ → Record → Type 0
EndsBy n (CommitRecord c) = Unit {0}
EndsBy n (TipRecord tip) = tip_end tip ≤ n
EndsBy n (AnchorRecord anchor) = anchor_end anchor ≤ n

ends_by : (covered n : ℕ) (records : List Record) → AllByRecursion (IsWithin covered n) (tips_of records) → covered_by (anchors_of records) ≤ n → AllByRecursion (EndsBy n) records
ends_by covered n [] tips anchors = tt
ends_by covered n (CommitRecord c ∷ records) tips anchors = (tt, ends_by covered n records tips anchors)
ends_by covered n (TipRecord t ∷ records) tips anchors = (tips.0.1, ends_by covered n records tips.1 anchors)
ends_by covered n (AnchorRecord a ∷ records) tips anchors = (omega arith, ends_by covered n records tips (omega arith))

pub each_ends : (records : List Record) → Orderly records → AllByRecursion (EndsBy (length (commits_of records))) records
each_ends records o = ends_by (covered_of records) (length (commits_of records)) records o.tips o.within

true_more : (commits more : List (List ℕ)) (r : Record) → EndsBy (length commits) r → IsTrue commits r → IsTrue (commits ++ more) r
true_more commits more (CommitRecord c) ends is = tt
true_more commits more (TipRecord t) ends is = is ∙ ap (λ (l : List (List ℕ)). root (hashed l)) (sym (span_more t.first t.count commits more ends))
true_more commits more (AnchorRecord a) ends is =
    is ∙ ap (λ (l : List (List ℕ)). led_to l a.prefix a.suffix a.branch) (sym (span_more a.first a.count commits more ends))

each_more : (commits more : List (List ℕ)) (records : List Record) → AllByRecursion (EndsBy (length commits)) records → AllByRecursion (IsTrue commits) records → AllByRecursion (IsTrue (commits ++ more)) records
each_more commits more [] ends are = tt
each_more commits more (r ∷ records) ends are = (true_more commits more r ends.0 are.0, each_more commits more records ends.1 are.1)

each_push : (commits : List (List ℕ)) (records : List Record) (r : Record) → AllByRecursion (IsTrue commits) records → IsTrue commits r → AllByRecursion (IsTrue commits) (records ++ r ∷ [])
each_push commits [] r are one = (one, tt)
each_push commits (x ∷ records) r are one = (are.0, each_push commits records r are.1 one)

last_true : (commits : List (List ℕ)) (r : Record) → IsTrue commits r → IsTrue (commits ++ (commit_in r ++ [])) r
last_true commits (CommitRecord c) is = tt
last_true commits (TipRecord t) is = subst (λ (l : List (List ℕ)). IsTrue l (TipRecord t)) (sym (append-nil commits)) is
last_true commits (AnchorRecord a) is = subst (λ (l : List (List ℕ)). IsTrue l (AnchorRecord a)) (sym (append-nil commits)) is

-- a record more, whose values are right by those before it
pub true_push : (records : List Record) (r : Record) → Orderly records → AreTrue records → IsTrue (commits_of records) r → AreTrue (records ++ r ∷ [])
true_push records r o are one =
    let commits : commits_of (records ++ r ∷ []) ≡ commits_of records ++ commits_of (r ∷ []) = commits_append records (r ∷ []) in
    subst (λ (l : List (List ℕ)). AllByRecursion (IsTrue l) (records ++ r ∷ [])) (sym commits)
    (each_push (commits_of records ++ commits_of (r ∷ [])) records r (each_more (commits_of records) (commits_of (r ∷ [])) records (each_ends records o) are) (last_true (commits_of records) r one))

pub anchors_true : (commits : List (List ℕ)) (records : List Record) → AllByRecursion (IsTrue commits) records → AllByRecursion (IsTrueAnchor commits) (anchors_of records)
anchors_true commits [] are = tt
anchors_true commits (CommitRecord c ∷ records) are = anchors_true commits records are.1
anchors_true commits (TipRecord t ∷ records) are = anchors_true commits records are.1
anchors_true commits (AnchorRecord a ∷ records) are = (are.0, anchors_true commits records are.1)
