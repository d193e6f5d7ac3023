-- A record more, taken in order.
use Rattle.std.proofs.Common.{◌≡◌, ◌∙◌, ◌<◌, ℕ, ◌+◌, zero, suc, List, [], ◌∷◌, ◌++◌, length, take, get_or, refl, sym, ap, subst, arith, append_assoc, length-append}
use Rattle.std.proofs.lemmas.List.{append-nil, take-append-le, map-append, map_more, take_more}
use Rattle.std.specs.Prelude.{slice_get, Some, Result, Ok, Err, OnErr}
use Rattle.std.specs.List.{AllByRecursion}
use Rattle.ots_journal.specs.declared.entry.Entry.{Entry}
use Rattle.ots_store.specs.declared.progress.Progress.{Progress}
use Rattle.ots_store.specs.declared.tip.Tip.{Tip}
use Rattle.ots_store.specs.Held.{HeldTold, Holds}
use Rattle.ots_store.specs.Opening.{HeldTo, HeldNext, FollowTo}
use Rattle.ots_store.specs.Order.{commits_of, tips_of, covered_of, Follows, records_of, AreRecords, FirstBad}
use Rattle.ots_store.specs.Progress.{TipEndsBy, Passed}
use Rattle.ots_store.specs.Records.{Record, record_of, IsRecord}
use Rattle.ots_store.proofs.Ordered.{order_push, records_push, tips_append, each_push}

pub passed_more : (group more : List Entry) (p : Progress) → Passed group p → Passed (group ++ more) p
passed_more group more p passed = record {
  group_there = omega (arith, passed.group_there, length-append group more);
  group_ends = subst (λ (l : List Entry). AllByRecursion (TipEndsBy p.covered) (tips_of (records_of l))) (sym (take-append-le p.group group more passed.group_there)) passed.group_ends;
}

pub follow_more : (before : List Record) (group : List Entry) (e : Entry) (tips : List Tip) (old new : Progress) → FollowTo before group tips old → IsRecord e → Follows (before ++ records_of group) (record_of e)
    → new.commits ≡ length (commits_of ((before ++ records_of group) ++ record_of e ∷ [])) → new.covered ≡ covered_of ((before ++ records_of group) ++ record_of e ∷ []) → FollowTo before (group ++ e ∷ []) tips new
follow_more before group e tips old new to is follows commits covered =
    let rs = records_of group in
    let more : (before ++ rs) ++ record_of e ∷ [] ≡ before ++ records_of (group ++ e ∷ []) =
    append_assoc before rs (record_of e ∷ []) ∙ ap (λ (l : List Record). before ++ l) (sym (map-append record_of group (e ∷ []))) in
    record {
      are = records_push before group e to.are is follows;
      progress = record {
        commits = commits ∙ ap (λ (l : List Record). length (commits_of l)) more;
        covered = covered ∙ ap covered_of more;
        tips_are =
            ap tips_of (sym more) ∙ tips_append (before ++ rs) (record_of e ∷ []) ∙ ap (λ (l : List Tip). l ++ tips_of (record_of e ∷ [])) to.progress.tips_are
            ∙ append_assoc tips (tips_of rs) (tips_of (record_of e ∷ [])) ∙ ap (λ (l : List Tip). tips ++ l) (sym (tips_append rs (record_of e ∷ [])) ∙ ap tips_of (sym (map-append record_of group (e ∷ []))));
      };
    }

pub held_more : (before : List Record) (e : Entry) (old mid new : HeldTold) (p p' : Progress) → HeldTo before old p → IsRecord e → Follows before (record_of e)
    → p'.commits ≡ length (commits_of (before ++ record_of e ∷ [])) → p'.covered ≡ covered_of (before ++ record_of e ∷ []) → Passed [] p'
    → ((kept flight : List Record) → Holds kept flight old → Holds kept (flight ++ record_of e ∷ []) mid)
    → ((kept flight : List Record) → Holds kept flight mid → Holds (kept ++ flight) [] new) → HeldNext before e new p'
held_more before e old mid new p p' to is follows commits covered passed staged kept =
    let holds : Holds (before ++ record_of e ∷ []) [] new = kept before (record_of e ∷ []) (staged before [] to.holds) in
    record {
      is = is;
      follows = follows;
      now = record {
        order = order_push [] before (record_of e) to.order follows;
        holds = holds;
        progress = record { commits = commits; covered = covered; tips_are = sym holds.tips ∙ sym (append-nil new.tips.kept) };
        passed = passed;
      };
    }

pub records_more : (entries : List Entry) (i : ℕ) (d : Entry) → i < length entries → records_of (take (i + 1) entries) ≡ records_of (take i entries) ++ record_of (get_or entries i d) ∷ []
records_more entries i d lt = map_more record_of entries i d lt

pub staged_more : (kept flight : List Record) (entries : List Entry) (i : ℕ) (d : Entry) (held : HeldTold) → i < length entries
    → Holds kept ((flight ++ records_of (take i entries)) ++ record_of (get_or entries i d) ∷ []) held → Holds kept (flight ++ records_of (take (i + 1) entries)) held
staged_more kept flight entries i d held lt h =
    subst (λ (l : List Record). Holds kept l held) (append_assoc flight (records_of (take i entries)) (record_of (get_or entries i d) ∷ []) ∙ ap (λ (l : List Record). flight ++ l) (sym (records_more entries i d lt))) h

-- the entry at an index, by any default
pub get_is : (entries : List Entry) (i : ℕ) (d e : Entry) → i < length entries → slice_get entries i ≡ Some e → e ≡ get_or entries i d
get_is [] i d e lt is = absurd (omega arith)
get_is (x ∷ entries) zero d e lt is = sym (cc)
get_is (x ∷ entries) (suc i) d e lt is = get_is entries i d e (omega arith) is

pub each_more : (entries : List Entry) (i : ℕ) (d : Entry) → i < length entries → AllByRecursion IsRecord (take i entries) → IsRecord (get_or entries i d) → AllByRecursion IsRecord (take (i + 1) entries)
each_more entries i d lt each one = subst (λ (l : List Entry). AllByRecursion IsRecord l) (sym (take_more entries i d lt)) (each_push (take i entries) (get_or entries i d) each one)

pub bad_at : (before : List Record) (entries : List Entry) (i : ℕ) (e : Entry) → i < length entries → slice_get entries i ≡ Some e → AreRecords before (take i entries)
    → (IsRecord e → Follows (before ++ records_of (take i entries)) (record_of e) → ⊥) → FirstBad before entries i
bad_at before entries i e lt there are bad = record {
  good = are;
  there = lt;
  bad = λ x found is follows.
      let same : x ≡ e = (let both : Some x ≡ Some e = sym found ∙ there in cc) in
      bad (subst IsRecord same is) (subst (λ (y : Entry). Follows (before ++ records_of (take i entries)) (record_of y)) same follows);
}

pub get_there : (entries : List Entry) (i : ℕ) (d : Entry) → i < length entries → slice_get entries i ≡ Some (get_or entries i d)
get_there [] i d lt = absurd (omega arith)
get_there (x ∷ entries) zero d lt = refl
get_there (x ∷ entries) (suc i) d lt = get_there entries i d (omega arith)

pub any_err : {A E P : Type 0} (r : Result A E) → P → OnErr r P
any_err (Ok a) p = tt
any_err (Err e) p = p
