-- Tips that rise, and a span sought among them.
use Rattle.std.proofs.Common.{◌≡◌, ◌<◌, ◌≤◌, ℕ, ◌+◌, zero, suc, List, [], ◌∷◌, ◌++◌, length, take, drop, get_or, subst, arith, inl, inr}
use Rattle.std.proofs.lemmas.Bool.{cases_lt}
use Rattle.ots_journal.specs.declared.entry.Entry.{Entry}
use Rattle.ots_store.specs.declared.progress.Progress.{Progress}
use Rattle.ots_store.specs.declared.tip.Tip.{Tip}
use Rattle.ots_store.specs.Order.{HasSpan, tips_of, tip_end, records_of, Follows}
use Rattle.ots_store.specs.Progress.{IsProgress}
use Rattle.ots_store.specs.Ranges.{TipsRiseFrom, Precedes, Orderly}
use Rattle.ots_store.specs.Records.{Record, CommitRecord, TipRecord, AnchorRecord}
use Rattle.ots_store.specs.Forms.{IsForm}
use Rattle.ots_store.specs.declared.form.Form.TheVariants as Form
use Rattle.ots_store.specs.declared.form.Span.{Span}

rise_left : (begun ended : ℕ) (xs ys : List Tip) → TipsRiseFrom begun ended (xs ++ ys) → TipsRiseFrom begun ended xs
rise_left begun ended [] ys rise = tt
rise_left begun ended (x ∷ xs) ys rise = (rise.0, rise.1, rise_left x.first (tip_end x) xs ys rise.2)

-- the tips in the list rise, which come before those of the group
listed_rise : (before : List Record) (tips : List Tip) (group : List Entry) (p : Progress) → Orderly before → IsProgress before tips group p → TipsRiseFrom 0 0 tips
listed_rise before tips group p o is = rise_left 0 0 tips (tips_of (records_of group)) (subst (TipsRiseFrom 0 0) is.tips_are o.tips_rise)

-- an anchor that is of none of these tips may not follow
pub not_anchor : (before : List Record) (r : Record) (span : Span) (tips : List Tip) (group : List Entry) (p : Progress) → Orderly before → IsProgress before tips group p → IsForm (Form.Anchor span) r
    → (TipsRiseFrom 0 0 tips → HasSpan span.first span.count (tips ++ tips_of (records_of group)) → p.covered < span.first + span.count → ⊥) → Follows before r → ⊥
not_anchor before (CommitRecord c) span tips group p o is form never follows = form
not_anchor before (TipRecord t) span tips group p o is form never follows = form
not_anchor before (AnchorRecord a) span tips group p o is form never follows =
    let has : HasSpan span.first span.count (tips_of before) = rw (form.0, form.1) follows.tip in
    never (listed_rise before tips group p o is) (subst (HasSpan span.first span.count) is.tips_are has) (omega (arith, form.0, form.1, follows.past, is.covered))

-- each begins and ends no earlier than the base
at_least : (begun ended : ℕ) (tips : List Tip) (m : ℕ) (d : Tip) → m < length tips → TipsRiseFrom begun ended tips → (begun ≤ (get_or tips m d).first) × (ended ≤ tip_end (get_or tips m d))
at_least begun ended [] m d lt rise = absurd (omega arith)
at_least begun ended (t ∷ tips) zero d lt rise = (rise.0, rise.1)
at_least begun ended (t ∷ tips) (suc m) d lt rise = let later = at_least t.first (tip_end t) tips m d (omega arith) rise.2 in (omega (arith, rise.0, later.0), omega (arith, rise.1, later.1))

span_at_least : (begun ended first count : ℕ) (tips : List Tip) → TipsRiseFrom begun ended tips → HasSpan first count tips → (begun ≤ first) × (ended ≤ first + count)
span_at_least begun ended first count [] rise has = absurd has
span_at_least begun ended first count (t ∷ tips) rise (inl has) = (omega (arith, rise.0, has.0), omega (arith, rise.1, has.0, has.1))
span_at_least begun ended first count (t ∷ tips) rise (inr has) = let later = span_at_least t.first (tip_end t) first count tips rise.2 has in (omega (arith, rise.0, later.0), omega (arith, rise.1, later.1))

-- a tip of this span, or one that begins and ends no earlier, does not precede it
not_before : (first count : ℕ) (t : Tip) → Precedes first count t → first ≤ t.first → first + count ≤ tip_end t → ⊥
not_before first count t (inl begins) le le' = omega arith
not_before first count t (inr fewer) le le' = omega (arith, fewer.0, fewer.1)

-- one that begins and ends no later is of it, or precedes it
is_before : (first count : ℕ) (t : Tip) → t.first ≤ first → tip_end t ≤ first + count → (t.first ≡ first → t.count ≡ count → ⊥) → Precedes first count t
is_before first count t le le' other = elim (cases_lt t.first first) [ inl less ↦ inl less | inr above ↦ inr (omega arith, omega (arith, other)) ]

-- where one precedes a span, none up to it is of that span
pub none_up_to : (begun ended first count : ℕ) (tips : List Tip) (m : ℕ) (d : Tip) → m < length tips → TipsRiseFrom begun ended tips → Precedes first count (get_or tips m d) → HasSpan first count (take (suc m) tips) → ⊥
none_up_to begun ended first count [] m d lt rise before has = absurd (omega arith)
none_up_to begun ended first count (t ∷ tips) zero d lt rise before (inl has) = not_before first count t before (omega (arith, has.0)) (omega (arith, has.0, has.1))
none_up_to begun ended first count (t ∷ tips) zero d lt rise before (inr has) = has
none_up_to begun ended first count (t ∷ tips) (suc m) d lt rise before (inl has) =
    let later = at_least t.first (tip_end t) tips m d (omega arith) rise.2 in
    not_before first count (get_or tips m d) before (omega (arith, has.0, later.0)) (omega (arith, has.0, has.1, later.1))
none_up_to begun ended first count (t ∷ tips) (suc m) d lt rise before (inr has) = none_up_to t.first (tip_end t) first count tips m d (omega arith) rise.2 before has

-- where one neither precedes a span nor is of it, none from it on is of that span
pub none_from : (begun ended first count : ℕ) (tips : List Tip) (m : ℕ) (d : Tip) → m < length tips → TipsRiseFrom begun ended tips → (Precedes first count (get_or tips m d) → ⊥)
    → ((get_or tips m d).first ≡ first → (get_or tips m d).count ≡ count → ⊥) → HasSpan first count (drop m tips) → ⊥
none_from begun ended first count [] m d lt rise before other has = absurd (omega arith)
none_from begun ended first count (t ∷ tips) zero d lt rise before other (inl has) = other has.0 has.1
none_from begun ended first count (t ∷ tips) zero d lt rise before other (inr has) =
    let least = span_at_least t.first (tip_end t) first count tips rise.2 has in before (is_before first count t least.0 least.1 other)
none_from begun ended first count (t ∷ tips) (suc m) d lt rise before other has = none_from t.first (tip_end t) first count tips m d (omega arith) rise.2 before other has
