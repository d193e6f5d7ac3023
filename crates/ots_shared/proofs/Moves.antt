-- A state of the table in which one view changed, and one with a new view.
use Rattle.std.proofs.Common.{◌≡◌, ℕ, ◌+◌, ◌≢◌, ◌⊎◌, ⊎_elim, List, [], ◌∷◌, ◌++◌, set, sym, ap, ◌∙◌, subst, arith}
use mathlib.Core.Option.{none, some, some-injective}
use lib.ListN.{get_elem?}
use Rattle.atomic_table.proofs.Lists.{at_set, set_here, set_else, at_snoc, at_longer}
use Rattle.ots_store.specs.Records.{Record}
use Rattle.ots_shared.specs.Rule.{waits, Has, IsHolder, share_of, waits_of, three, Home, AtHome, Knows, Moment, Kept}
use Rattle.ots_shared.specs.declared.view.Stage.TheVariants.{Idle}
use Rattle.ots_shared.specs.declared.view.View.{View}
use Rattle.ots_shared.proofs.Begins.{within}
use Rattle.ots_shared.proofs.Totals.{total_set, total_snoc}

-- some view is that of who has the book
abbrev pub IsHeld : List View → Type 0
IsHeld vs = (j : ℕ) × (v : View) × (get_elem? vs j ≡ some v) × IsHolder v.stage

pub still_held : (vs : List View) (id : ℕ) (v w : View) → get_elem? vs id ≡ some v → (IsHolder v.stage → ⊥) → IsHeld vs → IsHeld (set vs id w)
still_held vs id v w at not h =
    let same = λ (is : h.0 ≡ id). some-injective h.1 v (sym h.2 ∙ (ap (get_elem? vs) is ∙ at)) in
    let other : h.0 ≢ id = λ is. not (subst (λ (x : View). IsHolder x.stage) (same is) h.3) in (h.0, h.1, set_else vs id h.0 w other ∙ h.2, h.3)

module _ {D : Type 0} (callers limit : ℕ) where
  -- one view changes
  unfoldable pub moved : (callers' : ℕ) (s : Moment D) (r : Kept callers limit s) (id : ℕ) (v w : View) (words' : List ℕ) (homes' : List (Home D)) (first' waiting' : ℕ) (all' : List Record) (home' : Home D)
      → get_elem? s.views id ≡ some v → words' ≡ three first' waiting' all' → homes' ≡ home' ∷ [] → AtHome all' limit home'
      → (home' ≡ none → IsHolder w.stage ⊎ ((r.home ≡ none) × (IsHolder v.stage → ⊥)))
      → callers' + v.share ≡ callers + w.share → waiting' + waits v.stage ≡ r.waiting + waits w.stage
      → Knows first' waiting' all' home' limit w
      → ((j : ℕ) (u : View) → j ≢ id → get_elem? s.views j ≡ some u → Knows first' waiting' all' home' limit u)
      → ((j n : ℕ) (u : View) → j ≢ id → get_elem? s.views j ≡ some u → Has n w.stage → Has n u.stage → ⊥)
      → Kept callers' limit record { words = words'; homes = homes'; views = set s.views id w }
  moved callers' s r id v w words' homes' first' waiting' all' home' at ws hs inside' holder' share count knows others alone = record {
    first = first';
    waiting = waiting';
    all = all';
    home = home';
    words = ws;
    homes = hs;
    inside = inside';
    holder = λ away. ⊎_elim (λ (h : IsHolder w.stage). (id, w, set_here s.views id w (within s.views id v at), h))
        (λ (t : (r.home ≡ none) × (IsHolder v.stage → ⊥)). still_held s.views id v w at t.1 (r.holder t.0)) (holder' away);
    shares = let t = total_set share_of s.views id v w at in let a = r.shares in omega arith;
    out = let t = total_set waits_of s.views id v w at in let a = r.out in omega arith;
    each = λ j u e. ⊎_elim (λ (t : (j ≡ id) × (w ≡ u)). subst (Knows first' waiting' all' home' limit) t.1 knows)
        (λ (t : (j ≢ id) × (get_elem? s.views j ≡ some u)). others j u t.0 t.1) (at_set s.views id j w u e);
    apart = λ i j n a b ei ej hi hj. ⊎_elim
        (λ (p : (i ≡ id) × (w ≡ a)). ⊎_elim (λ (q : (j ≡ id) × (w ≡ b)). p.0 ∙ sym q.0)
        (λ (q : (j ≢ id) × (get_elem? s.views j ≡ some b)). absurd (alone j n b q.0 q.1 (subst (λ (x : View). Has n x.stage) (sym p.1) hi) hj)) (at_set s.views id j w b ej))
        (λ (p : (i ≢ id) × (get_elem? s.views i ≡ some a)). ⊎_elim (λ (q : (j ≡ id) × (w ≡ b)). absurd (alone i n a p.0 p.1 (subst (λ (x : View). Has n x.stage) (sym q.1) hj) hi))
        (λ (q : (j ≢ id) × (get_elem? s.views j ≡ some b)). r.apart i j n a b p.1 q.1 hi hj) (at_set s.views id j w b ej)) (at_set s.views id i w a ei);
  }

  -- a new view with no number
  pub added : (s : Moment D) (r : Kept callers limit s) (u : View) → u.stage ≡ Idle → Knows r.first r.waiting r.all r.home limit u
      → Kept (callers + u.share) limit record { words = s.words; homes = s.homes; views = s.views ++ u ∷ [] }
  added s r u idle knows = let none_out : waits u.stage ≡ 0 = ap waits idle in record {
    first = r.first;
    waiting = r.waiting;
    all = r.all;
    home = r.home;
    words = r.words;
    homes = r.homes;
    inside = r.inside;
    holder = λ away. let h = r.holder away in (h.0, h.1, at_longer s.views (u ∷ []) h.0 h.1 h.2, h.3);
    shares = let t = total_snoc share_of s.views u in let a = r.shares in omega arith;
    out = let t = total_snoc waits_of s.views u in let a = r.out in omega arith;
    each = λ j v e. ⊎_elim (r.each j v) (λ (t : u ≡ v). subst (Knows r.first r.waiting r.all r.home limit) t knows) (at_snoc s.views u v j e);
    apart = λ i j n a b ei ej hi hj. ⊎_elim
        (λ (p : get_elem? s.views i ≡ some a). ⊎_elim (λ (q : get_elem? s.views j ≡ some b). r.apart i j n a b p q hi hj)
        (λ (q : u ≡ b). absurd (subst (Has n) idle (subst (λ (x : View). Has n x.stage) (sym q) hj))) (at_snoc s.views u b j ej))
        (λ (p : u ≡ a). absurd (subst (Has n) idle (subst (λ (x : View). Has n x.stage) (sym p) hi))) (at_snoc s.views u a i ei);
  }
