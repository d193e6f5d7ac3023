-- The canonical form of a tree after operations is that of the tree, after them.
use Rattle.std.proofs.Common.{◌≡◌, ◌∙◌, ℕ, List, Some, [], ◌∷◌, ◌++◌, map, refl, sym, subst, ap, inl, inr, append-nil}
use Rattle.std.specs.Prelude.{Result, Ok, Err, IfOk}
use Rattle.std.specs.List.{slice_get}
use Rattle.ots_ops.specs.declared.op.Op.{Op}
use Rattle.ots_canon.specs.Canonical.{IsCanonical, IsCanonOf}
use Rattle.ots_canon.specs.Order.{Has, HaveSame, IsRising}
use Rattle.ots_tree.specs.declared.detached.Detached.{Detached}
use Rattle.ots_tree.specs.declared.token.Token.{Token}
use Rattle.ots_tree.specs.Made.{IsUnder, after, chain}
use Rattle.ots_tree.specs.Wire.{Node, Path, paths, pre}
use Rattle.ots_stamp.specs.Batch.{IsCanonUnder}
use Rattle.ots_stamp.specs.Stamped.{Gathers, GathersForm, IsStampOf}
use Rattle.ots_stamp.specs.declared.target.Target.{Target}

-- ---- the members of a list of which each is made another

has_made : (f : Path → Path) (ps : List Path) (p : Path) → Has ps p → Has (map f ps) (f p)
has_made f [] p has = absurd has
has_made f (q ∷ ps) p (inl is) = inl (ap f is)
has_made f (q ∷ ps) p (inr has) = inr (has_made f ps p has)

made_of : (f : Path → Path) (ps : List Path) (q : Path) → Has (map f ps) q → (p : Path) × Has ps p × (f p ≡ q)
made_of f [] q has = absurd has
made_of f (p ∷ ps) q (inl is) = (p, inl refl, is)
made_of f (p ∷ ps) q (inr has) = let found = made_of f ps q has in (found.0, inr found.1, found.2)

same_made : (f : Path → Path) (ps qs : List Path) → HaveSame ps qs → HaveSame (map f ps) (map f qs)
same_made f ps qs same q = (
  (λ has. let found = made_of f ps q has in subst (Has (map f qs)) found.2 (has_made f qs found.0 ((same found.0).0 found.1))),
  (λ has. let found = made_of f qs q has in subst (Has (map f ps)) found.2 (has_made f ps found.0 ((same found.0).1 found.1))),
)

-- ---- the form

canonical_chain : (ops : List Op) (t : Node) → IsCanonical t → IsCanonical (chain ops t)
canonical_chain [] t is = is
canonical_chain (o ∷ ops) t is = canonical_chain ops t is

pub form_below : ((t u : Node) (x y : List Token) → pre t ++ x ≡ pre u ++ y → (t ≡ u) × (x ≡ y))
    → ((ops : List Op) (t : Node) → paths (chain ops t) ≡ map (after ops) (paths t)) → ((t : Node) → IsCanonical t → IsRising (paths t))
    → (ops : List Op) (good form made : List Token) → IsCanonOf good form → IsUnder ops form made → IsCanonUnder ops good made
form_below one chained rises ops good form made canon under =
    let tree = canon.form.node in
    let node_is : under.node ≡ tree =
    (one under.node tree [] [] (append-nil (pre under.node) ∙ under.node_is ∙ sym canon.form.are ∙ sym (append-nil (pre tree)))).0 in
    let canonical : IsCanonical (chain ops tree) = canonical_chain ops tree canon.form.is_tree.canonical in
    let paths_are = chained ops tree ∙ ap (map (after ops)) canon.form.is_tree.same in
    record {
      made = pre (chain ops canon.node);
      under = record { node = canon.node; node_is = canon.are; made_is = refl };
      canon = record {
        node = chain ops canon.node;
        are = refl;
        form = record {
          sorted = map (after ops) canon.form.sorted;
          is_canon = record {
            rising = subst IsRising paths_are (rises (chain ops tree) canonical);
            same = subst (λ (ps : List Path). HaveSame ps (map (after ops) canon.form.sorted)) (sym (chained ops canon.node))
                (same_made (after ops) (paths canon.node) canon.form.sorted canon.form.is_canon.same);
          };
          node = chain ops tree;
          is_tree = record { canonical = canonical; same = paths_are };
          are = ap (λ (t : Node). pre (chain ops t)) (sym node_is) ∙ under.made_is;
        };
      };
    }

-- ---- the proof of a file

pub stamp_by_form : {E : Type 0} (r : Result Detached E) (targets : List Target) (i : ℕ) (good form : List Token) → IsCanonOf good form
    → IfOk r (λ proof. (t : Target) (trees : List (List Token)) → slice_get targets i ≡ Some t → GathersForm trees form → IsStampOf targets i t trees proof)
    → IfOk r (λ proof. (t : Target) (trees : List (List Token)) → slice_get targets i ≡ Some t → Gathers trees good → IsStampOf targets i t trees proof)
stamp_by_form (Ok proof) targets i good form canon is = λ t trees at all. is t trees at (record { good = good; gathers = all; canon = canon })
stamp_by_form (Err e) targets i good form canon is = is
