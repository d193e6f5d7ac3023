-- A proof has a completed tree, since the attestations of its paths and of those of the trees are within their limits.
use Rattle.std.proofs.Common.{◌≡◌, ℕ, List, [], ◌∷◌, ◌++◌, map, Option, Some, None, refl, sym, subst, inl}
use Rattle.std.specs.Prelude.{option_map}
use Rattle.std.specs.List.{AllByRecursion, flat_map}
use Rattle.ots_ops.specs.declared.op.Op.{Op}
use Rattle.ots_attest.specs.declared.attestation.Attestation.{Attestation}
use Rattle.ots_attest.specs.declared.attestation.Attestation.TheVariants as attestation
use Rattle.ots_tree.specs.declared.token.Token.{Token}
use Rattle.ots_tree.specs.Made.{after}
use Rattle.ots_tree.specs.Wire.{Node, Item, last, more, attested, step, pre, pre_item, Path, paths, paths_of_item, below, IsToken}
use Rattle.ots_tree.proofs.Closing.{all-append, all-left, all-right}
use Rattle.ots_canon.specs.Order.{Has, IsWithin}
use Rattle.ots_canon.specs.Canonical.{IsCanonTree}
use Rattle.ots_canon.proofs.Among.{has_append, some_has}
use Rattle.ots_canon.proofs.Insertion.{some_canon}
use Rattle.ots_canon.proofs.OneTree.{tree_exists}
use Rattle.ots_pending.specs.Pairs.{PairAt}
use Rattle.ots_pending.specs.Completed.{tree_for, answer_to, paths_after, gained}
use Rattle.ots_pending.specs.Limits.{HaveLimits}
use Rattle.ots_pending.proofs.Putting.{given_at}
use Rattle.ots_pending.proofs.SoundTrees.{all_flat, gave}

-- ---- the attestations of paths are within their limits

below_within : (o : Op) (ps : List Path) → AllByRecursion IsWithin ps → AllByRecursion IsWithin (map (below o) ps)
below_within o [] h = tt
below_within o (p ∷ ps) h = (h.0, below_within o ps h.1)

after_within : (ops : List Op) (ps : List Path) → AllByRecursion IsWithin ps → AllByRecursion IsWithin (map (after ops) ps)
after_within ops [] h = tt
after_within ops (p ∷ ps) h = (h.0, after_within ops ps h.1)

mutual
  node_within : (t : Node) → AllByRecursion IsToken (pre t) → AllByRecursion IsWithin (paths t)
  node_within (last i) h = item_within i h
  node_within (more i t) h =
      all-append IsWithin (paths_of_item i) (paths t) (item_within i (all-left IsToken (pre_item i) (pre t) h.1)) (node_within t (all-right IsToken (pre_item i) (pre t) h.1))

  item_within : (i : Item) → AllByRecursion IsToken (pre_item i) → AllByRecursion IsWithin (paths_of_item i)
  item_within (attested a) h = (h.0, tt)
  item_within (step o t) h = below_within o (paths t) (node_within t h.1)

module _ (pairs : List PairAt) (trees : List (Option (List Token))) (given : List (Option Node)) (given_are : map (option_map pre) given ≡ trees) (limits : HaveLimits trees) where
  gain_within : (ops : List Op) (uri m : List ℕ) (t : Option Node) → tree_for (record { uri = uri; message = m }) pairs given ≡ t → AllByRecursion IsWithin (paths_after ops t)
  gain_within ops uri m None e = tt
  gain_within ops uri m (Some t) e =
      let g = gave (record { uri = uri; message = m }) pairs given t e in
      after_within ops (paths t) (node_within t (limits g.place (Some (pre t)) (given_at given trees g.place (Some t) given_are g.gave)))

  gains_within : (ops : List Op) (a : Attestation) (m : Option (List ℕ)) → AllByRecursion IsWithin (paths_after ops (answer_to pairs given a m))
  gains_within ops (attestation.Pending uri) (Some m) = gain_within ops uri m (tree_for (record { uri = uri; message = m }) pairs given) refl
  gains_within ops (attestation.Pending uri) None = tt
  gains_within ops (attestation.Bitcoin height) m = tt
  gains_within ops (attestation.Litecoin height) m = tt
  gains_within ops (attestation.Unknown other) m = tt

  all_within : (m : Option (List ℕ)) (node : Node) → AllByRecursion IsToken (pre node) → AllByRecursion IsWithin (paths node ++ flat_map (gained pairs given m) (paths node))
  all_within m node h =
      all-append IsWithin (paths node) (flat_map (gained pairs given m) (paths node)) (node_within node h)
      (all_flat IsWithin (gained pairs given m) (paths node) (λ p has. gains_within p.ops p.end _))

-- ---- they have a tree

pub some_form : (ps : List Path) (p : Path) → Has ps p → AllByRecursion IsWithin ps → (made : List Token) × IsCanonTree ps made
some_form ps p has h =
    let c = some_canon ps h in
    let t = tree_exists c.0 (λ none. subst (λ (z : List Path). Has z p) none ((c.1.same p).0 has)) c.1.rising in
    (pre t.0, record { sorted = c.0; is_canon = c.1; node = t.0; is_tree = t.1; are = refl })

pub completed_exists : (pairs : List PairAt) (trees : List (Option (List Token))) (given : List (Option Node)) (m : Option (List ℕ)) (node : Node) (tree : List Token)
    → map (option_map pre) given ≡ trees → pre node ≡ tree → HaveLimits trees → AllByRecursion IsToken tree
    → (made : List Token) × IsCanonTree (paths node ++ flat_map (gained pairs given m) (paths node)) made
completed_exists pairs trees given m node tree given_are is limits within =
    let one = some_has node in
    some_form (paths node ++ flat_map (gained pairs given m) (paths node)) one.0 ((has_append (paths node) (flat_map (gained pairs given m) (paths node)) one.0).0 (inl one.1))
    (all_within pairs trees given given_are limits m node (subst (AllByRecursion IsToken) (sym is) within))
