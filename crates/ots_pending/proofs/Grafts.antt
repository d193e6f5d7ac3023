-- A tree in which each node with an answer is that answer: the first of the node's own, and none below it. It is
-- canonical where these all are, and its paths are among those that all answers bring.
use Rattle.std.proofs.Common.{◌≡◌, ℕ, inl, inr, List, Option, None, Some, refl, sym, ap, subst, ◌∙◌}
use Rattle.std.specs.Prelude.{option_and_then}
use Rattle.std.specs.declared.cmp.Ordering.TheVariants.{Less}
use Rattle.ots_ops.specs.declared.op.Op.{Op}
use Rattle.ots_ops.specs.Apply.{apply}
use Rattle.ots_attest.specs.declared.attestation.Attestation.{Attestation}
use Rattle.ots_tree.specs.Wire.{Node, Item, last, more, attested, step, Path, paths, paths_of_item}
use Rattle.ots_canon.specs.Canonical.{place, first, IsCanonical, IsCanonicalItem}
use Rattle.ots_canon.specs.Order.{op_step, step_cmp, Has}
use Rattle.ots_canon.proofs.Among.{has_append, is_below}
use Rattle.ots_pending.specs.Pairs.{PairAt}
use Rattle.ots_pending.specs.Completed.{answer_to}
use Rattle.ots_pending.proofs.GrownTrees.{Gains, HasAnswer, gains_append, gains_below, end_paths}
use Rattle.ots_pending.proofs.Lists.{none_some}

-- the second, where there is no first
abbrev pub or_else : Option Node → Option Node → Option Node
or_else None other = other
or_else (Some t) other = Some t

abbrev pub answer_or : Option Node → Node → Node
answer_or None t = t
answer_or (Some u) t = u

module _ (pairs : List PairAt) (given : List (Option Node)) where
  abbrev pub answer_of_item : Option (List ℕ) → Item → Option Node
  answer_of_item m (attested a) = answer_to pairs given a m
  answer_of_item m (step o t) = None

  -- the first answer to an attestation of the node itself, on the message m
  abbrev pub answer_of : Option (List ℕ) → Node → Option Node
  answer_of m (last i) = answer_of_item m i
  answer_of m (more i t) = or_else (answer_of_item m i) (answer_of m t)

  abbrev mutual
    -- the node with the nodes below its operations grafted
    pub grafted_below : Option (List ℕ) → Node → Node
    grafted_below m (last i) = last (grafted_item m i)
    grafted_below m (more i t) = more (grafted_item m i) (grafted_below m t)

    pub grafted_item : Option (List ℕ) → Item → Item
    grafted_item m (attested a) = attested a
    grafted_item m (step o t) = step o (answer_or (answer_of (option_and_then (apply o) m) t) (grafted_below (option_and_then (apply o) m) t))

  abbrev pub grafted : Option (List ℕ) → Node → Node
  grafted m t = answer_or (answer_of m t) (grafted_below m t)

  -- ---- answers of a node

  -- where an operation is first, no attestation follows
  pub no_answer : (m : Option (List ℕ)) (o : Op) (t : Node) → IsCanonical t → step_cmp (op_step o) (place (first t)) ≡ Less → answer_of m t ≡ None
  no_answer m o (last (attested a)) c less = absurd cc
  no_answer m o (last (step q t)) c less = refl
  no_answer m o (more (attested a) t) c less = absurd cc
  no_answer m o (more (step q u) t) c less = no_answer m q t c.2 c.1

  either_answer : {G : Type 0} (x y : Option Node) (u : Node) → (x ≡ Some u → G) → (y ≡ Some u → G) → or_else x y ≡ Some u → G
  either_answer None y u one other e = other e
  either_answer (Some t) y u one other e = one e

  -- ---- it is canonical

  module _ (canonical : (a : Attestation) (m : Option (List ℕ)) (t : Node) → answer_to pairs given a m ≡ Some t → IsCanonical t) where
    answer_canonical : (m : Option (List ℕ)) (t u : Node) → answer_of m t ≡ Some u → IsCanonical u
    answer_canonical m (last (attested a)) u e = canonical a m u e
    answer_canonical m (last (step o t)) u e = absurd (none_some u e)
    answer_canonical m (more (attested a) t) u e = either_answer (answer_to pairs given a m) (answer_of m t) u (canonical a m u) (answer_canonical m t u) e
    answer_canonical m (more (step o v) t) u e = answer_canonical m t u e

    or_canonical : (x : Option Node) (t : Node) → ((u : Node) → x ≡ Some u → IsCanonical u) → IsCanonical t → IsCanonical (answer_or x t)
    or_canonical None t one other = other
    or_canonical (Some u) t one other = one u refl

    same_place : (m : Option (List ℕ)) (i : Item) → place (grafted_item m i) ≡ place i
    same_place m (attested a) = refl
    same_place m (step o t) = refl

    same_first : (m : Option (List ℕ)) (t : Node) → place (first (grafted_below m t)) ≡ place (first t)
    same_first m (last i) = same_place m i
    same_first m (more i t) = same_place m i

    mutual
      below_canonical : (m : Option (List ℕ)) (t : Node) → IsCanonical t → IsCanonical (grafted_below m t)
      below_canonical m (last i) c = item_canonical m i c
      below_canonical m (more i t) c = (
        item_canonical m i c.0,
        ap (λ (z : List ℕ). step_cmp z (place (first (grafted_below m t)))) (same_place m i) ∙ ap (step_cmp (place i)) (same_first m t) ∙ c.1,
        below_canonical m t c.2,
      )

      item_canonical : (m : Option (List ℕ)) (i : Item) → IsCanonicalItem i → IsCanonicalItem (grafted_item m i)
      item_canonical m (attested a) c = c
      item_canonical m (step o t) c =
          let next = option_and_then (apply o) m in
          or_canonical (answer_of next t) (grafted_below next t) (answer_canonical next t) (below_canonical next t c)

    pub grafted_canonical : (m : Option (List ℕ)) (t : Node) → IsCanonical t → IsCanonical (grafted m t)
    grafted_canonical m t c = or_canonical (answer_of m t) (grafted_below m t) (answer_canonical m t) (below_canonical m t c)

  -- ---- its paths

  end_gains : (a : Attestation) (m : Option (List ℕ)) (u : Node) (p : Path) → answer_to pairs given a m ≡ Some u → Has (paths u) p → Gains pairs given m (paths_of_item (attested a)) p
  end_gains a m u p e has = (end_paths pairs given a m p).0 (inr (subst (λ (z : Option Node). HasAnswer pairs given z p) (sym e) has))

  answer_gains : (m : Option (List ℕ)) (t u : Node) (p : Path) → answer_of m t ≡ Some u → Has (paths u) p → Gains pairs given m (paths t) p
  answer_gains m (last (attested a)) u p e has = end_gains a m u p e has
  answer_gains m (last (step o t)) u p e has = absurd (none_some u e)
  answer_gains m (more (attested a) t) u p e has =
      (gains_append pairs given m (paths_of_item (attested a)) (paths t) p).0
      (either_answer (answer_to pairs given a m) (answer_of m t) u (λ one. inl (end_gains a m u p one has)) (λ other. inr (answer_gains m t u p other has)) e)
  answer_gains m (more (step o v) t) u p e has = (gains_append pairs given m (paths_of_item (step o v)) (paths t) p).0 (inr (answer_gains m t u p e has))

  or_gains : {G : Type 0} (x : Option Node) (t : Node) (p : Path) → ((u : Node) → x ≡ Some u → Has (paths u) p → G) → (Has (paths t) p → G) → Has (paths (answer_or x t)) p → G
  or_gains None t p one other has = other has
  or_gains (Some u) t p one other has = one u refl has

  mutual
    below_gains : (m : Option (List ℕ)) (t : Node) (p : Path) → Has (paths (grafted_below m t)) p → Gains pairs given m (paths t) p
    below_gains m (last i) p has = item_gains m i p has
    below_gains m (more i t) p has =
        (gains_append pairs given m (paths_of_item i) (paths t) p).0 (elim ((has_append (paths_of_item (grafted_item m i)) (paths (grafted_below m t)) p).1 has) [
          | inl one ↦ inl (item_gains m i p one)
          | inr other ↦ inr (below_gains m t p other)
        ])

    item_gains : (m : Option (List ℕ)) (i : Item) (p : Path) → Has (paths_of_item (grafted_item m i)) p → Gains pairs given m (paths_of_item i) p
    item_gains m (attested a) p has = inl has
    item_gains m (step o t) p has =
        let next = option_and_then (apply o) m in
        let c = is_below o (paths (grafted next t)) p has in
        let inner : Gains pairs given next (paths t) c.inner =
        or_gains (answer_of next t) (grafted_below next t) c.inner (λ u e in_u. answer_gains next t u c.inner e in_u) (below_gains next t c.inner) c.has in
        subst (Gains pairs given m (paths_of_item (step o t))) c.is (gains_below pairs given o m (paths t) c.inner inner)

  pub grafted_gains : (m : Option (List ℕ)) (t : Node) (p : Path) → Has (paths (grafted m t)) p → Gains pairs given m (paths t) p
  grafted_gains m t p has = or_gains (answer_of m t) (grafted_below m t) p (λ u e in_u. answer_gains m t u p e in_u) (below_gains m t p) has
