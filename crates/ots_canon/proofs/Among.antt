-- The paths of the nodes at places.
use Rattle.std.proofs.Common.{◌≡◌, ◌↔◌, ◌⊎◌, ℕ, ◌<◌, List, [], ◌∷◌, ◌++◌, map, length, refl, sym, ap, subst, inl, inr, arith}
use Rattle.std.specs.Prelude.{Contains}
use Rattle.std.specs.List.Sorted.{IsPermutation}
use Rattle.std.proofs.lemmas.List.Elements.{Contains-append_left, Contains-append_right, Contains-append_cases, Contains-push, Contains-push_cases}
use Rattle.std.proofs.lemmas.List.Sorted.{Contains-permutation, IsPermutation-sym}
use Rattle.ots_ops.specs.declared.op.Op.{Op}
use Rattle.ots_tree.specs.Wire.{Node, Path, below, paths}
use Rattle.ots_canon.specs.Order.{Has}
use Rattle.ots_canon.specs.Places.{Among}
use Rattle.ots_canon.proofs.Rising.{has_left, has_right, has_either}
use Rattle.ots_canon.proofs.Growing.{prefix, prefix_first}

pub contains_none : {X : Type 0} (x : X) → Contains [] x → ⊥
contains_none x h = absurd (let l = h.1 in omega arith)

pub contains_one : {X : Type 0} (y x : X) → Contains (y ∷ []) x → y ≡ x
contains_one y x h = elim (Contains-push_cases [] y x h) [ inl a ↦ absurd (contains_none x a) | inr e ↦ e ]

pub contains_some : {X : Type 0} (xs : List X) (x : X) → Contains xs x → 0 < length xs
contains_some xs x h = let l = h.1 in omega arith

-- ---- equivalences

pub alike : {A : Type 0} → A ↔ A
alike = ((λ x. x), (λ x. x))

pub back : {A B : Type 0} → A ↔ B → B ↔ A
back f = (f.1, f.0)

pub onward : {A B C : Type 0} → A ↔ B → B ↔ C → A ↔ C
onward f g = ((λ x. g.0 (f.0 x)), (λ x. f.1 (g.1 x)))

pub both : {A B C D : Type 0} → A ↔ B → C ↔ D → (A ⊎ C) ↔ (B ⊎ D)
both f g = (
  (λ x. elim x [ inl a ↦ inl (f.0 a) | inr b ↦ inr (g.0 b) ]),
  (λ x. elim x [ inl a ↦ inl (f.1 a) | inr b ↦ inr (g.1 b) ]),
)

pub regrouped : {A B C : Type 0} → ((A ⊎ B) ⊎ C) ↔ (A ⊎ (B ⊎ C))
regrouped = (
  (λ x. elim x [ inl y ↦ elim y [ inl a ↦ inl a | inr b ↦ inr (inl b) ] | inr c ↦ inr (inr c) ]),
  (λ x. elim x [ inl a ↦ inl (inl a) | inr y ↦ elim y [ inl b ↦ inl (inr b) | inr c ↦ inr c ] ]),
)

-- ---- what places have

pub among_none : {H : ℕ → Path → Type 0} {p : Path} → Among H [] p → ⊥
among_none h = contains_none h.place h.listed

pub union : (H : ℕ → Path → Type 0) (ks ls : List ℕ) (p : Path) → Among H (ks ++ ls) p ↔ (Among H ks p ⊎ Among H ls p)
union H ks ls p = (
  (λ h. elim (Contains-append_cases ks ls h.place h.listed) [
    | inl c ↦ inl (record { place = h.place; listed = c; has = h.has })
    | inr c ↦ inr (record { place = h.place; listed = c; has = h.has })
  ]),
  (λ h. elim h [
    | inl a ↦ record { place = a.place; listed = Contains-append_left ks ls a.place a.listed; has = a.has }
    | inr b ↦ record { place = b.place; listed = Contains-append_right ks ls b.place b.listed; has = b.has }
  ]),
)

pub at_one : (H : ℕ → Path → Type 0) (k : ℕ) (p : Path) → Among H (k ∷ []) p ↔ H k p
at_one H k p = (
  (λ h. subst (λ (z : ℕ). H z p) (sym (contains_one k h.place h.listed)) h.has),
  (λ h. record { place = k; listed = Contains-push [] k; has = h }),
)

pub pushed : (H : ℕ → Path → Type 0) (ks : List ℕ) (k : ℕ) (p : Path) → Among H (ks ++ k ∷ []) p ↔ (Among H ks p ⊎ H k p)
pushed H ks k p = onward (union H ks (k ∷ []) p) (both alike (at_one H k p))

pub permuted : (H : ℕ → Path → Type 0) (ks ls : List ℕ) → IsPermutation ks ls → (p : Path) → Among H ks p ↔ Among H ls p
permuted H ks ls m p = (
  (λ h. record { place = h.place; listed = Contains-permutation ks ls h.place m h.listed; has = h.has }),
  (λ h. record { place = h.place; listed = Contains-permutation ls ks h.place (IsPermutation-sym ks ls m) h.listed; has = h.has }),
)

-- ---- membership

pub has_append : (ps qs : List Path) (p : Path) → (Has ps p ⊎ Has qs p) ↔ Has (ps ++ qs) p
has_append ps qs p = ((λ h. elim h [ inl a ↦ has_left ps qs p a | inr b ↦ has_right ps qs p b ]), (λ h. has_either ps qs p h))

pub has_below : (o : Op) (ps : List Path) (p : Path) → Has ps p → Has (map (below o) ps) (below o p)
has_below o [] p h = absurd h
has_below o (q ∷ qs) p (inl e) = inl (ap (below o) e)
has_below o (q ∷ qs) p (inr h) = inr (has_below o qs p h)

pub record IsBelow (o : Op) (ps : List Path) (p : Path) : Type 0 where
  pub inner : Path
  pub has : Has ps inner
  pub is : below o inner ≡ p

pub is_below : (o : Op) (ps : List Path) (p : Path) → Has (map (below o) ps) p → IsBelow o ps p
is_below o [] p h = absurd h
is_below o (q ∷ qs) p (inl e) = record { inner = q; has = inl refl; is = e }
is_below o (q ∷ qs) p (inr h) = let g = is_below o qs p h in record { inner = g.inner; has = inr g.has; is = g.is }

-- each node has a path
pub some_has : (t : Node) → (p : Path) × Has (paths t) p
some_has t = let h = prefix_first t in (prefix t, subst (λ (z : List Path). Has z (prefix t)) (sym h.are) (inl refl))
