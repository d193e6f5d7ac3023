-- All of a list, and the paths that stand in it.
use Rattle.std.proofs.Common.{◌≡◌, ◌<◌, ℕ, zero, suc, List, [], ◌∷◌, ◌++◌, length, map, get_or, refl, sym, ap, subst, inl, inr, arith}
use Rattle.std.specs.List.{AllByRecursion, flat_map}
use Rattle.ots_canon.specs.Order.{Has, HaveSame}
use Rattle.ots_tree.specs.Wire.{Path}

pub at_place : {A : Type 0} (P : A → Type 0) (xs : List A) (i : ℕ) (x : A) → i < length xs → x ≡ get_or xs i x → AllByRecursion P xs → P x
at_place P [] i x less is all = absurd (omega arith)
at_place P (y ∷ xs) zero x less is all = subst P (sym is) all.0
at_place P (y ∷ xs) (suc i) x less is all = at_place P xs i x (omega arith) is all.1

pub at_has : (P : Path → Type 0) (ps : List Path) (p : Path) → AllByRecursion P ps → Has ps p → P p
at_has P [] p all has = absurd has
at_has P (q ∷ ps) p all (inl is) = subst P is all.0
at_has P (q ∷ ps) p all (inr has) = at_has P ps p all.1 has

pub all_has : (P : Path → Type 0) (ps : List Path) → ((p : Path) → Has ps p → P p) → AllByRecursion P ps
all_has P [] each = tt
all_has P (q ∷ ps) each = (each q (inl refl), all_has P ps (λ p has. each p (inr has)))

-- what holds of all paths of a list holds of all paths that are among them
pub all_same : (P : Path → Type 0) (ps qs : List Path) → HaveSame ps qs → AllByRecursion P ps → AllByRecursion P qs
all_same P ps qs same all = all_has P qs (λ p has. at_has P ps p all ((same p).1 has))

-- ---- the members of a list of which each is made another

pub has_made : (f : Path → Path) (ps : List Path) (p : Path) → Has ps p → Has (map f ps) (f p)
has_made f [] p has = absurd has
has_made f (q ∷ ps) p (inl is) = inl (ap f is)
has_made f (q ∷ ps) p (inr has) = inr (has_made f ps p has)

made_of : (f : Path → Path) (ps : List Path) (q : Path) → Has (map f ps) q → (p : Path) × Has ps p × (f p ≡ q)
made_of f [] q has = absurd has
made_of f (p ∷ ps) q (inl is) = (p, inl refl, is)
made_of f (p ∷ ps) q (inr has) = let found = made_of f ps q has in (found.0, inr found.1, found.2)

pub same_made : (f : Path → Path) (ps qs : List Path) → HaveSame ps qs → HaveSame (map f ps) (map f qs)
same_made f ps qs same q = (
  (λ has. let found = made_of f ps q has in subst (Has (map f qs)) found.2 (has_made f qs found.0 ((same found.0).0 found.1))),
  (λ has. let found = made_of f qs q has in subst (Has (map f ps)) found.2 (has_made f ps found.0 ((same found.0).1 found.1))),
)
