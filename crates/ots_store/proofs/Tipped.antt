-- Tips sought among tips, and among entries.
use Rattle.std.proofs.Common.{◌≡◌, ◌<◌, ◌≤◌, ℕ, ◌+◌, zero, suc, List, [], ◌∷◌, ◌++◌, length, take, drop, get_or, sym, ◌∙◌, ap, subst, arith, inl, inr, ◌⊎◌, take-append-drop}
use Rattle.std.proofs.lemmas.List.{take_more, map-append, append-nil}
use Rattle.std.proofs.lemmas.List.Concat.{flat_map-append}
use Rattle.std.proofs.lemmas.List.Elements.{All-from_recursion}
use Rattle.std.specs.List.{AllByRecursion}
use Rattle.ots_journal.specs.declared.entry.Entry.{Entry}
use Rattle.ots_store.specs.declared.tip.Tip.{Tip}
use Rattle.ots_store.specs.Records.{record_of, IsRecord}
use Rattle.ots_store.specs.Order.{HasSpan, tip_in, tips_of, records_of}
use Rattle.ots_store.specs.Progress.{TipEndsBy}

pub has_left : (first count : ℕ) (xs ys : List Tip) → HasSpan first count xs → HasSpan first count (xs ++ ys)
has_left first count [] ys has = absurd has
has_left first count (x ∷ xs) ys (inl has) = inl has
has_left first count (x ∷ xs) ys (inr has) = inr (has_left first count xs ys has)

pub has_right : (first count : ℕ) (xs ys : List Tip) → HasSpan first count ys → HasSpan first count (xs ++ ys)
has_right first count [] ys has = has
has_right first count (x ∷ xs) ys has = inr (has_right first count xs ys has)

pub has_in : (first count : ℕ) (xs ys : List Tip) → HasSpan first count (xs ++ ys) → HasSpan first count xs ⊎ HasSpan first count ys
has_in first count [] ys has = inr has
has_in first count (x ∷ xs) ys (inl has) = inl (inl has)
has_in first count (x ∷ xs) ys (inr has) = elim (has_in first count xs ys has) [ inl here ↦ inl (inr here) | inr there ↦ inr there ]

pub has_neither : (first count : ℕ) (xs ys : List Tip) → (HasSpan first count xs → ⊥) → (HasSpan first count ys → ⊥) → HasSpan first count (xs ++ ys) → ⊥
has_neither first count xs ys left right has = elim (has_in first count xs ys has) [ inl here ↦ left here | inr there ↦ right there ]

pub has_at : (first count : ℕ) (tips : List Tip) (i : ℕ) (d : Tip) → i < length tips → (get_or tips i d).first ≡ first → (get_or tips i d).count ≡ count → HasSpan first count tips
has_at first count [] i d lt is many = absurd (omega arith)
has_at first count (t ∷ tips) zero d lt is many = inl (is, many)
has_at first count (t ∷ tips) (suc i) d lt is many = inr (has_at first count tips i d (omega arith) is many)

-- none among those that end by what an anchor reaches past
pub none_ends : (first count covered : ℕ) (tips : List Tip) → covered < first + count → AllByRecursion (TipEndsBy covered) tips → HasSpan first count tips → ⊥
none_ends first count covered [] past all has = has
none_ends first count covered (t ∷ tips) past all (inl has) = omega (arith, all.0, has.0, has.1)
none_ends first count covered (t ∷ tips) past all (inr has) = none_ends first count covered tips past all.1 has

pub all_append : {A : Type 0} (P : A → Type 0) (xs ys : List A) → AllByRecursion P xs → AllByRecursion P ys → AllByRecursion P (xs ++ ys)
all_append P [] ys left right = right
all_append P (x ∷ xs) ys left right = (left.0, all_append P xs ys left.1 right)

pub all_later : (covered covered' : ℕ) (tips : List Tip) → covered ≤ covered' → AllByRecursion (TipEndsBy covered) tips → AllByRecursion (TipEndsBy covered') tips
all_later covered covered' [] le all = tt
all_later covered covered' (t ∷ tips) le all = (omega (arith, all.0), all_later covered covered' tips le all.1)

-- ---- of a group

pub tips_more : (group : List Entry) (i : ℕ) (d : Entry) → i < length group → tips_of (records_of (take (i + 1) group)) ≡ tips_of (records_of (take i group)) ++ tip_in (record_of (get_or group i d))
tips_more group i d lt =
    ap (λ (l : List Entry). tips_of (records_of l)) (take_more group i d lt)
    ∙ ap tips_of (map-append record_of (take i group) (get_or group i d ∷ []))
    ∙ flat_map-append tip_in (records_of (take i group)) (record_of (get_or group i d) ∷ [])
    ∙ ap (λ (l : List Tip). tips_of (records_of (take i group)) ++ l) (append-nil (tip_in (record_of (get_or group i d))))

pub tips_split : (group : List Entry) (i : ℕ) → tips_of (records_of group) ≡ tips_of (records_of (take i group)) ++ tips_of (records_of (drop i group))
tips_split group i =
    ap (λ (l : List Entry). tips_of (records_of l)) (sym (take-append-drop i group))
    ∙ ap tips_of (map-append record_of (take i group) (drop i group))
    ∙ flat_map-append tip_in (records_of (take i group)) (records_of (drop i group))

pub group_has : (first count : ℕ) (group : List Entry) (i : ℕ) (d : Entry) → i < length group → HasSpan first count (tip_in (record_of (get_or group i d))) → HasSpan first count (tips_of (records_of group))
group_has first count group i d lt has =
    subst (HasSpan first count) (sym (tips_split group (i + 1)))
    (has_left first count (tips_of (records_of (take (i + 1) group))) (tips_of (records_of (drop (i + 1) group)))
    (subst (HasSpan first count) (sym (tips_more group i d lt)) (has_right first count (tips_of (records_of (take i group))) (tip_in (record_of (get_or group i d))) has)))

pub group_has_not : (first count : ℕ) (group : List Entry) (i : ℕ) (d : Entry) → i < length group → (HasSpan first count (tips_of (records_of (take i group))) → ⊥)
    → (HasSpan first count (tip_in (record_of (get_or group i d))) → ⊥) → HasSpan first count (tips_of (records_of (take (i + 1) group))) → ⊥
group_has_not first count group i d lt before here has =
    has_neither first count (tips_of (records_of (take i group))) (tip_in (record_of (get_or group i d))) before here (subst (HasSpan first count) (tips_more group i d lt) has)

pub group_ends : (covered : ℕ) (group : List Entry) (i : ℕ) (d : Entry) → i < length group → AllByRecursion (TipEndsBy covered) (tips_of (records_of (take i group)))
    → AllByRecursion (TipEndsBy covered) (tip_in (record_of (get_or group i d))) → AllByRecursion (TipEndsBy covered) (tips_of (records_of (take (i + 1) group)))
group_ends covered group i d lt before here =
    subst (λ (l : List Tip). AllByRecursion (TipEndsBy covered) l) (sym (tips_more group i d lt)) (all_append (TipEndsBy covered) (tips_of (records_of (take i group))) (tip_in (record_of (get_or group i d))) before here)

pub record_there : (group : List Entry) (i : ℕ) (d : Entry) → i < length group → AllByRecursion IsRecord group → IsRecord (get_or group i d)
record_there group i d lt each = All-from_recursion IsRecord group each i d lt

pub each_after : (group : List Entry) (i : ℕ) → AllByRecursion IsRecord group → AllByRecursion IsRecord (drop i group)
each_after group zero each = each
each_after [] (suc i) each = tt
each_after (e ∷ group) (suc i) each = each_after group i each.1

-- none of the tips that were passed, and none of the others
pub not_in_group : (first count covered : ℕ) (group : List Entry) (i : ℕ) → covered < first + count → AllByRecursion (TipEndsBy covered) (tips_of (records_of (take i group)))
    → (HasSpan first count (tips_of (records_of (drop i group))) → ⊥) → HasSpan first count (tips_of (records_of group)) → ⊥
not_in_group first count covered group i past ends others has =
    has_neither first count (tips_of (records_of (take i group))) (tips_of (records_of (drop i group))) (none_ends first count covered (tips_of (records_of (take i group))) past ends) others (subst (HasSpan first count) (tips_split group i) has)

pub there_in_group : (first count : ℕ) (group : List Entry) (i : ℕ) → HasSpan first count (tips_of (records_of (drop i group))) → HasSpan first count (tips_of (records_of group))
there_in_group first count group i has = subst (HasSpan first count) (sym (tips_split group i)) (has_right first count (tips_of (records_of (take i group))) (tips_of (records_of (drop i group))) has)

pub has_none_more : (first count : ℕ) (tips : List Tip) (i : ℕ) (d : Tip) → i < length tips → (HasSpan first count (take i tips) → ⊥)
    → ((get_or tips i d).first ≡ first → (get_or tips i d).count ≡ count → ⊥) → HasSpan first count (take (i + 1) tips) → ⊥
has_none_more first count tips i d lt before here has =
    has_neither first count (take i tips) (get_or tips i d ∷ []) before (λ one. elim one [ inl is ↦ here is.0 is.1 | inr none ↦ none ]) (subst (HasSpan first count) (take_more tips i d lt) has)
