-- Callers that come and go: the book is shared, passes are split and joined, and the book is handed back.
use Rattle.std.proofs.Common.{◌≡◌, ℕ, ◌+◌, ◌-◌, ◌<◌, ◌≤◌, inr, List, [], ◌∷◌, ◌++◌, length, set, sym, refl, ap, ◌∙◌, subst, arith}
use mathlib.Core.Logic.{dite}
use mathlib.Core.Option.{none, some, some-injective, some-ne-none}
use native.Mathlib.Decide.{ℕ_discrete}
use lib.ListN.{get_elem?}
use Rattle.std.specs.Prelude.{Option, Some, None}
use Rattle.atomic_table.specs.Table.{Splits, Joins, opening, Final, Seen}
use Rattle.atomic_table.proofs.Lists.{set_else}
use Rattle.ots_calendar.specs.Book.{BookTold}
use Rattle.ots_store.specs.Records.{Record}
use Rattle.ots_shared.specs.Records.{StartsWith}
use Rattle.ots_shared.specs.Rule.{waits, Has, IsHolder, share_of, Home, AtHome, Knows, Moment, Kept, IsKept}
use Rattle.ots_shared.specs.Steps.{Fits, opener, lessened, single, both, nobody}
use Rattle.ots_shared.specs.declared.view.Stage.TheVariants.{Idle}
use Rattle.ots_shared.specs.declared.view.View.{View}
use Rattle.ots_shared.proofs.Begins.{starts_self, starts_none, only}
use Rattle.ots_shared.proofs.Moves.{moved, added}
use Rattle.ots_shared.proofs.Stages.{idle_not, holder_waits}
use Rattle.ots_shared.proofs.Totals.{total_one, total_two}

pub opens : {D : Type 0} (callers : ℕ) (b : BookTold D) → callers ≤ 65 → IsKept callers b.store.journal.limit (opening (0 ∷ 0 ∷ length b.store.records ∷ []) (Some b ∷ []) (opener callers b))
opens {D = D} callers b few = let v : View = opener callers b in (
  few,
  record {
    first = 0;
    waiting = 0;
    all = b.store.records;
    home = some (Some b);
    words = refl;
    homes = refl;
    inside = (refl, refl);
    holder = λ away. absurd (some-ne-none (Some b) away);
    shares = omega arith;
    out = refl;
    each = λ j u e. subst (Knows 0 0 b.store.records (some (Some b)) b.store.journal.limit) (only v j u e) (starts_self b.store.records, omega arith, (λ _. refl), omega arith, tt, starts_none b.store.records);
    apart = λ i j n a c ei ej hi hj. absurd (subst (λ (x : View). Has n x.stage) (sym (only v i a ei)) hi);
  },
)

pub splits : {D : Type 0} (callers limit id : ℕ) (v : View) → v.stage ≡ Idle → 1 < v.share → Splits {S = Option (BookTold D)} (IsKept callers limit) id v (lessened v) (single v)
unfolding moved
splits {D = D} callers limit id v idle two s kept at =
    let r = kept.1 in
    let k = r.each id v at in
    let fewer : ℕ = callers - 1 in
    let le = total_one share_of s.views id v at in
    let sum = r.shares in
    let back : fewer + 1 ≡ callers = omega arith in
    let none_out : waits v.stage ≡ 0 = ap waits idle in
    let new_idle : (single v).stage ≡ Idle = refl in
    let cut : Kept fewer limit record { words = s.words; homes = s.homes; views = set s.views id (lessened v) } = moved callers limit fewer s r id v (lessened v) s.words s.homes r.first r.waiting r.all r.home at r.words r.homes r.inside
    (λ away. inr (away, idle_not v.stage idle)) (omega arith) refl (k.0, k.1, (λ p. k.2 (omega arith)), omega arith, k.4, k.5) (λ j u _ e. r.each j u e) (λ j m u other e my theirs. other (r.apart j id m u v e at theirs my)) in (
      kept.0,
      subst (λ (z : ℕ). Kept z limit record { words = s.words; homes = s.homes; views = set s.views id (lessened v) ++ single v ∷ [] }) back
          (added fewer limit _ cut (single v) new_idle (k.0, k.1, (λ p. k.2 (omega arith)), omega arith, tt, starts_none r.all)),
    )

pub joins : {D : Type 0} (callers limit id : ℕ) (v : View) (other : ℕ) (w : View) → v.stage ≡ Idle → w.stage ≡ Idle → 0 < v.share → Joins {S = Option (BookTold D)} (IsKept callers limit) id v other w (both v w) nobody
unfolding moved
joins {D = D} callers limit id v other w idle idle' share s kept at apart at' =
    let r = kept.1 in
    let k = r.each id v at in
    let there : get_elem? s.views other ≡ some w = sym (set_else s.views id other (both v w) apart) ∙ at' in
    let o = r.each other w there in
    let none_out : waits v.stage ≡ 0 = ap waits idle in
    let none_out' : waits w.stage ≡ 0 = ap waits idle' in
    let more : ℕ = callers + w.share in
    let told = k.1 in
    let told' = o.1 in
    let back : more ≡ callers + w.share = refl in
    let glued : Kept more limit record { words = s.words; homes = s.homes; views = set s.views id (both v w) } = moved callers limit more s r id v (both v w) s.words s.homes r.first r.waiting r.all r.home at r.words r.homes r.inside
    (λ away. inr (away, idle_not v.stage idle)) (omega arith) refl (k.0, omega arith, (λ p. k.2 share), omega arith, k.4, o.0) (λ j u _ e. r.each j u e) (λ j m u ne e my theirs. ne (r.apart j id m u v e at theirs my)) in (
      kept.0,
      moved more limit callers _ glued other w nobody s.words s.homes r.first r.waiting r.all r.home at' r.words r.homes r.inside
          (λ away. inr (away, idle_not w.stage idle')) (omega arith) (omega arith) (starts_none r.all, omega arith, (λ p. absurd (omega arith)), omega arith, tt, starts_none r.all) (λ j u _ e. glued.each j u e) (λ j m u ne e my theirs. my),
    )

-- ---- one pass stands for all callers, and has no number: the book is at home

at_end : {D : Type 0} (callers limit id : ℕ) (v : View) (s : Moment D) (r : Kept callers limit s) → get_elem? s.views id ≡ some v → v.stage ≡ Idle → v.share ≡ callers → 0 < v.share → (xs : List (Option (BookTold D)))
    → ((k : ℕ) (y : Option (BookTold D)) → get_elem? s.homes k ≡ some (some y) → get_elem? xs k ≡ some y) → (home : Home D) → r.home ≡ home
    → (b : BookTold D) × (get_elem? xs 0 ≡ some (Some b)) × Fits v b
at_end {D = D} callers limit id v s r at idle whole share xs final none away =
    let h = r.holder away in
    let u = h.1 in
    let le = (r.each h.0 u h.2).3 in
    let one_out = holder_waits u.stage h.3 in
    let sum = r.shares in
    dite (ℕ_discrete h.0 id)
    (λ same. absurd (idle_not v.stage idle (subst (λ (x : View). IsHolder x.stage) (some-injective u v (sym h.2 ∙ (ap (get_elem? s.views) same ∙ at))) h.3)))
    (λ other. let two = total_two share_of s.views h.0 id u v other h.2 at in absurd (omega arith))
at_end {D = D} callers limit id v s r at idle whole share xs final (some None) away = absurd (subst (AtHome r.all limit) away r.inside)
at_end {D = D} callers limit id v s r at idle whole share xs final (some (Some b)) away =
    let inside = subst (AtHome r.all limit) away r.inside in
    let k = r.each id v at in (
      b,
      final 0 (Some b) (ap (λ (hs : List (Home D)). get_elem? hs 0) r.homes ∙ ap (λ (h : Home D). some h) away),
      (
        subst (λ (l : List Record). StartsWith l v.seen) (sym inside.0) k.0,
        subst (λ (l : List Record). v.told ≤ length l) (sym inside.0) k.1,
        inside.1 ∙ sym (k.2 share),
      ),
    )

pub closes : {D : Type 0} (callers limit id : ℕ) (v : View) (words : List ℕ) (xs : List (Option (BookTold D))) → v.stage ≡ Idle → v.share ≡ callers → 0 < v.share → Final (Seen (IsKept callers limit) id v) words xs
    → (b : BookTold D) × (get_elem? xs 0 ≡ some (Some b)) × Fits v b
closes callers limit id v words xs idle whole share final =
    let kept = final.1.0 in at_end callers limit id v final.0 kept.1 final.1.1 idle whole share xs final.4 kept.1.home refl

-- the same, of the book that was found there
pub closes_with : {D : Type 0} (callers limit id : ℕ) (v : View) (words : List ℕ) (xs : List (Option (BookTold D))) (b : BookTold D) → v.stage ≡ Idle → v.share ≡ callers → 0 < v.share → Final (Seen (IsKept callers limit) id v) words xs
    → get_elem? xs 0 ≡ some (Some b) → Fits v b
closes_with {D = D} callers limit id v words xs b idle whole share final at =
    let end = closes callers limit id v words xs idle whole share final in
    let is : Some end.0 ≡ Some b = some-injective _ _ (sym end.1 ∙ at) in
    let same : end.0 ≡ b = cc in subst (Fits v) same end.2
