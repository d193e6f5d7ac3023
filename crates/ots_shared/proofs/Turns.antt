-- Each step of a caller keeps the rule, and tells what its play says.
use Rattle.std.proofs.Common.{◌≡◌, ℕ, ◌+◌, ◌-◌, ◌%◌, ◌^◌, ◌<◌, ◌≤◌, ◌≢◌, inl, inr, List, [], ◌∷◌, length, get_or, set, sym, refl, ap, ◌∙◌, subst, arith}
use Rattle.std.proofs.Math.Nat.{mod-add-mod}
use Rattle.std.proofs.lemmas.List.{set-get_or}
use mathlib.Core.Logic.{dite}
use mathlib.Core.Option.{none, some, some-injective, some-ne-none}
use native.Mathlib.Decide.{ℕ_discrete}
use lib.ListN.{get_elem?}
use Rattle.std.specs.Prelude.{Option, Some, None}
use Rattle.atomic_table.specs.Table.{step, keeps, takes, gives, Allows, put_back, rest}
use Rattle.atomic_table.proofs.Lists.{one_turn}
use Rattle.ots_calendar.specs.Book.{BookTold}
use Rattle.ots_store.specs.Records.{Record}
use Rattle.ots_shared.specs.Records.{StartsWith}
use Rattle.ots_shared.specs.Rule.{waits, Has, IsHolder, share_of, waits_of, Home, AtHome, InStage, Moment, Kept, IsKept}
use Rattle.ots_shared.specs.Steps.{Sat, at_stage, informed, released, settled, Fits, Draws, Looks, Publishes, Serves, Counts, Settles}
use Rattle.ots_shared.specs.declared.view.Stage.{Stage}
use Rattle.ots_shared.specs.declared.view.Stage.TheVariants.{Idle, Waits, Holds}
use Rattle.ots_shared.specs.declared.view.View.{View}
use Rattle.ots_shared.proofs.Begins.{starts_self, starts_none, starts_trans, starts_length, longer_of}
use Rattle.ots_shared.proofs.Moves.{moved}
use Rattle.ots_shared.proofs.Stages.{number_of, records_of, idle_not, waiter_not, has_between, holder_has, later, taken, grown, next}
use Rattle.ots_shared.proofs.Totals.{total_le}

-- what is carried has the records of its first book
abbrev book_records : {D : Type 0} → Option (BookTold D) → List Record
book_records None = []
book_records (Some b) = b.store.records

abbrev carried_records : {D : Type 0} → List (ℕ × Option (BookTold D)) → List Record
carried_records [] = []
carried_records (x ∷ xs) = book_records x.1

some_share : (st : Stage) (share : ℕ) → waits st ≡ 1 → waits st ≤ share → 0 < share
some_share st share e le = omega arith

module _ {D : Type 0} (callers limit : ℕ) where
  -- no other caller has the number served
  served_once : (s : Moment D) (r : Kept callers limit s) (id : ℕ) (v : View) → get_elem? s.views id ≡ some v → Has r.first v.stage → (j : ℕ) (u : View) → j ≢ id → get_elem? s.views j ≡ some u → Has r.first u.stage → ⊥
  served_once s r id v at mine j u other e theirs = other (r.apart j id r.first u v e at theirs mine)

  few_out : (s : Moment D) → IsKept callers limit s → (r : Kept callers limit s) → r.waiting ≤ 65
  few_out s kept r =
      let few = kept.0 in
      let le = total_le waits_of share_of s.views (λ i v e. (r.each i v e).3) in
      let a = r.shares in
      let b = r.out in omega arith

  pub draws : (slots id : ℕ) (me : Sat D) → me.0.stage ≡ Idle → 0 < me.0.share → Allows (IsKept callers limit) slots id me 0 (λ n. (n + 1) % 2 ^ 64) (Draws (step slots 0 1 0 none) me)
  draws slots id me idle share s kept _ at _ =
      let r = kept.1 in
      let f : ℕ = r.first in
      let q : ℕ = r.waiting in
      let n : ℕ = f + q in
      let w : View = at_stage me.0 (Waits n) in
      let k = r.each id me.0 at in
      let none_out : waits me.0.stage ≡ 0 = ap waits idle in
      let one : n + 1 ≡ f + (q + 1) = omega arith in (
        w,
        keeps,
        tt,
        (
          kept.0,
          moved callers limit callers s r id me.0 w _ _ f (q + 1) r.all r.home at
              (ap (λ (ws : List ℕ). set ws 0 ((get_or ws 0 0 + 1) % 2 ^ 64)) r.words ∙ ap (λ (z : ℕ). z ∷ f % 2 ^ 64 ∷ length r.all ∷ []) (mod-add-mod n (2 ^ 64) 1 ∙ ap (λ (z : ℕ). z % 2 ^ 64) one))
              r.homes r.inside (λ away. inr (away, idle_not me.0.stage idle)) refl (omega arith)
              (k.0, k.1, k.2, share, (omega arith, omega arith), k.5)
              (λ j u _ e. let o = r.each j u e in (o.0, o.1, o.2, o.3, later f q r.all r.home u.stage o.4, o.5))
              (λ j m u _ e mine theirs. let b = has_between f q r.all r.home u.stage m (r.each j u e).4 theirs in let below = b.1 in let same : m ≡ n = mine in omega arith),
        ),
        (n, refl, ap (λ (ws : List ℕ). get_or ws 0 0) r.words),
      )

  -- where the number served is the caller's, the book is at home, and the caller takes it
  takes_book : (id n : ℕ) (me : Sat D) (s : Moment D) (kept : IsKept callers limit s) → get_elem? s.views id ≡ some me.0 → me.0.stage ≡ Waits n → kept.1.first ≡ n → 0 < me.0.share → (home : Home D) → kept.1.home ≡ home
      → (w : View) × (b : BookTold D) × (get_elem? s.homes 0 ≡ some (some (Some b)))
      × IsKept callers limit record { words = set s.words 1 (get_or s.words 1 0); homes = set s.homes 0 none; views = set s.views id w }
      × (w ≡ at_stage me.0 (Holds n b.store.records)) × Fits me.0 b
  takes_book id n me s kept at st is share none away =
      let r = kept.1 in
      let h = r.holder away in
      let u = h.1 in
      let same : h.0 ≡ id = r.apart h.0 id r.first u me.0 h.2 at (holder_has r.first r.waiting r.all r.home u.stage (r.each h.0 u h.2).4 h.3) (subst (λ (x : Stage). Has r.first x) (sym st) is) in
      absurd (waiter_not me.0.stage n st (subst (λ (x : View). IsHolder x.stage) (some-injective u me.0 (sym h.2 ∙ (ap (get_elem? s.views) same ∙ at))) h.3))
  takes_book id n me s kept at st is share (some None) away = absurd (subst (AtHome kept.1.all limit) away kept.1.inside)
  takes_book id n me s kept at st is share (some (Some b)) away =
      let r = kept.1 in
      let f : ℕ = r.first in
      let q : ℕ = r.waiting in
      let inside = subst (AtHome r.all limit) away r.inside in
      let all_is = inside.0 in
      let w : View = at_stage me.0 (Holds n b.store.records) in
      let k = r.each id me.0 at in
      let here = subst (InStage f q r.all r.home) st k.4 in
      let below = here.1 in
      let first_is : f ≡ n = is in
      let one_out : waits me.0.stage ≡ 1 = ap waits st in
      let mine : Has f me.0.stage = subst (λ (x : Stage). Has f x) (sym st) is in (
        w,
        b,
        ap (λ (hs : List (Home D)). get_elem? hs 0) r.homes ∙ ap (λ (h : Home D). some h) away,
        (
          kept.0,
          moved callers limit callers s r id me.0 w _ _ f q r.all none at (set-get_or s.words 1 0 ∙ r.words) (ap (λ (hs : List (Home D)). set hs 0 none) r.homes) tt (λ _. inl tt) refl (omega arith)
              (k.0, k.1, k.2, subst (λ (z : ℕ). z ≤ me.0.share) one_out k.3, (is, omega arith, all_is, refl), k.5)
              (λ j u _ e. let o = r.each j u e in (o.0, o.1, o.2, o.3, taken f q r.all r.home u.stage o.4, o.5))
              (λ j m u other e my theirs. served_once s r id me.0 at mine j u other e (subst (λ (z : ℕ). Has z u.stage) (my ∙ sym is) theirs)),
        ),
        refl,
        (
          subst (λ (l : List Record). StartsWith l me.0.seen) (sym all_is) k.0,
          subst (λ (l : List Record). me.0.told ≤ length l) (sym all_is) k.1,
          inside.1 ∙ sym (k.2 share),
        ),
      )

  pub looks : (slots id n : ℕ) (me : Sat D) → me.0.stage ≡ Waits n → Allows (IsKept callers limit) slots id me 1 (λ z. z) (Looks (step slots 1 0 0 none) me)
  looks slots id n me st s kept _ at _ =
      let r = kept.1 in
      let f : ℕ = r.first in
      let q : ℕ = r.waiting in
      let found : get_or s.words 1 0 ≡ f % 2 ^ 64 = ap (λ (ws : List ℕ). get_or ws 1 0) r.words in
      let k = r.each id me.0 at in
      let here = subst (InStage f q r.all r.home) st k.4 in
      let low : f ≤ n = here.0 in
      let below = here.1 in
      let few = few_out s kept r in
      let share : 0 < me.0.share = some_share me.0.stage me.0.share (ap waits st) k.3 in
      dite (ℕ_discrete (f % 2 ^ 64) (n % 2 ^ 64))
      (λ hit. let is : f ≡ n = one_turn f n (2 ^ 64) low (omega arith) hit in let t = takes_book id n me s kept at st is share r.home refl in (
        t.0,
        takes 0 (Some t.1),
        t.2,
        t.3,
        λ m st'. let same : n ≡ m = ap number_of (sym st ∙ st') in (
          λ _. (t.1, ap (λ (w : View). (w, (0, Some t.1) ∷ me.1)) (t.4 ∙ ap (λ (z : ℕ). at_stage me.0 (Holds z t.1.store.records)) same), t.5),
          λ miss. absurd (miss (found ∙ (hit ∙ ap (λ (z : ℕ). z % 2 ^ 64) same))),
        ),
      ))
      (λ miss. (
        me.0,
        keeps,
        tt,
        (
          kept.0,
          moved callers limit callers s r id me.0 me.0 _ _ f q r.all r.home at (set-get_or s.words 1 0 ∙ r.words) r.homes r.inside (λ away. inr (away, waiter_not me.0.stage n st)) refl refl k (λ j u _ e. r.each j u e)
              (λ j m u other e my theirs. other (r.apart j id m u me.0 e at theirs my)),
        ),
        λ m st'. let same : n ≡ m = ap number_of (sym st ∙ st') in (λ hit. absurd (miss (sym found ∙ (hit ∙ ap (λ (z : ℕ). z % 2 ^ 64) (sym same)))), λ _. refl),
      ))

  pub publishes : (slots id new n : ℕ) (l : List Record) (b : BookTold D) (me : Sat D) → me.0.stage ≡ Holds n l → me.1 ≡ (0, Some b) ∷ [] → StartsWith b.store.records l → new ≡ length b.store.records
      → Allows (IsKept callers limit) slots id me 2 (λ _. new) (λ _. Publishes (step slots 2 new 0 none) me new)
  publishes slots id new n l b me st out more size s kept _ at _ =
      let r = kept.1 in
      let f : ℕ = r.first in
      let q : ℕ = r.waiting in
      let records = b.store.records in
      let w : View = at_stage me.0 (Holds n records) in
      let k = r.each id me.0 at in
      let here = subst (InStage f q r.all r.home) st k.4 in
      let mine : Has f me.0.stage = subst (λ (x : Stage). Has f x) (sym st) here.0 in
      let longer : StartsWith records r.all = subst (StartsWith records) here.2 more in
      let le = starts_length r.all records longer in
      let told = k.1 in
      let one_out : waits me.0.stage ≡ 1 = ap waits st in (
        w,
        keeps,
        tt,
        (
          kept.0,
          moved callers limit callers s r id me.0 w _ _ f q records none at (ap (λ (ws : List ℕ). set ws 2 new) r.words ∙ ap (λ (z : ℕ). (f + q) % 2 ^ 64 ∷ f % 2 ^ 64 ∷ z ∷ []) size) (r.homes ∙ ap (λ (h : Home D). h ∷ []) here.3) tt
              (λ _. inl tt) refl (omega arith)
              (starts_trans me.0.seen r.all records k.0 longer, omega arith, k.2, subst (λ (z : ℕ). z ≤ me.0.share) one_out k.3, (here.0, here.1, refl, refl), starts_trans me.0.also r.all records k.5 longer)
              (λ j u other e. grown f q r.all r.home records none limit u longer (served_once s r id me.0 at mine j u other e) (r.each j u e))
              (λ j m u other e my theirs. served_once s r id me.0 at mine j u other e (subst (λ (z : ℕ). Has z u.stage) (my ∙ sym here.0) theirs)),
        ),
        λ m l' b' st' out'. ap (λ (z : Stage × List (ℕ × Option (BookTold D))). (at_stage me.0 (Holds (number_of z.0) (carried_records z.1)), me.1)) (λ i. ((sym st ∙ st') i, (sym out ∙ out') i)),
      )

  pub serves : (slots id n : ℕ) (l : List Record) (b : BookTold D) (me : Sat D) → me.0.stage ≡ Holds n l → me.1 ≡ (0, Some b) ∷ [] → b.store.records ≡ l → b.store.journal.limit ≡ me.0.limit
      → Allows (IsKept callers limit) slots id me 1 (λ z. (z + 1) % 2 ^ 64) (Serves (step slots 1 1 0 none) me)
  serves slots id n l b me st out same lim s kept _ at _ =
      let r = kept.1 in
      let f : ℕ = r.first in
      let q : ℕ = r.waiting in
      let w : View = released me.0 l in
      let k = r.each id me.0 at in
      let here = subst (InStage f q r.all r.home) st k.4 in
      let mine : Has f me.0.stage = subst (λ (x : Stage). Has f x) (sym st) here.0 in
      let some_out : 0 < q = here.1 in
      let one_out : waits me.0.stage ≡ 1 = ap waits st in
      let sum : f + q ≡ (f + 1) + (q - 1) = omega arith in
      let share : 0 < me.0.share = some_share me.0.stage me.0.share one_out k.3 in (
        w,
        gives,
        tt,
        (
          kept.0,
          moved callers limit callers s r id me.0 w _ _ (f + 1) (q - 1) r.all (some (Some b)) at
              (ap (λ (ws : List ℕ). set ws 1 ((get_or ws 1 0 + 1) % 2 ^ 64)) r.words ∙ ap (λ (z : ℕ × ℕ). z.0 % 2 ^ 64 ∷ z.1 ∷ length r.all ∷ []) (λ i. (sum i, mod-add-mod f (2 ^ 64) 1 i)))
              (ap (λ (z : List (Home D) × List (ℕ × Option (BookTold D))). put_back z.0 z.1) (λ i. (r.homes i, out i))) (same ∙ here.2, lim ∙ k.2 share)
              (λ full. absurd (some-ne-none (Some b) full)) refl (omega arith)
              (subst (StartsWith r.all) (sym here.2) (starts_self r.all), k.1, k.2, omega arith, tt, k.5)
              (λ j u other e. let o = r.each j u e in (o.0, o.1, o.2, o.3, next f q r.all r.home (some (Some b)) u.stage (served_once s r id me.0 at mine j u other e) o.4, o.5))
              (λ j m u other e my theirs. my),
        ),
        λ m l' st'. ap (λ (z : Stage × List (ℕ × Option (BookTold D))). (released me.0 (records_of z.0), rest z.1)) (λ i. ((sym st ∙ st') i, out i)),
      )

  pub counts : (slots id : ℕ) (me : Sat D) → me.0.stage ≡ Idle → Allows (IsKept callers limit) slots id me 2 (λ z. z) (Counts (step slots 2 0 0 none) me)
  counts slots id me idle s kept _ at _ =
      let r = kept.1 in
      let found : get_or s.words 2 0 ≡ length r.all = ap (λ (ws : List ℕ). get_or ws 2 0) r.words in
      let w : View = informed me.0 (get_or s.words 2 0) in
      let k = r.each id me.0 at in
      let le = starts_length me.0.seen r.all k.0 in
      let told = k.1 in (
        w,
        keeps,
        tt,
        (
          kept.0,
          moved callers limit callers s r id me.0 w _ _ r.first r.waiting r.all r.home at (set-get_or s.words 2 0 ∙ r.words) r.homes r.inside (λ away. inr (away, idle_not me.0.stage idle)) refl refl
              (k.0, omega arith, k.2, k.3, k.4, k.5) (λ j u _ e. r.each j u e) (λ j m u other e my theirs. other (r.apart j id m u me.0 e at theirs my)),
        ),
        (refl, omega arith, omega arith),
      )

  pub settles : (slots id : ℕ) (me : Sat D) → me.0.stage ≡ Idle → Allows (IsKept callers limit) slots id me 2 (λ z. z) (Settles (step slots 2 0 0 none) me)
  settles slots id me idle s kept _ at _ =
      let r = kept.1 in
      let k = r.each id me.0 at in
      let found = longer_of me.0.seen me.0.also r.all k.0 k.5 in
      let w : View = settled me.0 found.0 in (
        w,
        keeps,
        tt,
        (
          kept.0,
          moved callers limit callers s r id me.0 w _ _ r.first r.waiting r.all r.home at (set-get_or s.words 2 0 ∙ r.words) r.homes r.inside (λ away. inr (away, idle_not me.0.stage idle)) refl refl
              (found.1, k.1, k.2, k.3, k.4, starts_none r.all) (λ j u _ e. r.each j u e) (λ j m u other e my theirs. other (r.apart j id m u me.0 e at theirs my)),
        ),
        (found.0, refl, found.2, found.3, found.4),
      )
