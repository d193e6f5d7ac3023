-- What completes a proof is sound for its digest.
use Rattle.std.proofs.Common.{◌≡◌, ℕ, suc, ◌+◌, ◌≤◌, inl, inr, Bool, true, false, cond, List, [], ◌∷◌, ◌++◌, map, length, max, Option, Some, None, refl, sym, ap, subst, ◌∙◌, arith, length-append}
use Rattle.std.specs.Prelude.{IsSome, option_and_then, option_map}
use Rattle.std.specs.List.{AllByRecursion, flat_map, slice_get}
use Rattle.ots_ops.specs.declared.op.Op.{Op}
use Rattle.ots_ops.specs.ResultLength.{len}
use Rattle.ots_ops.specs.Value.{value}
use Rattle.ots_attest.specs.declared.attestation.Attestation.{Attestation}
use Rattle.ots_attest.specs.declared.attestation.Attestation.TheVariants as attestation
use Rattle.ots_tree.specs.declared.token.Token.{Token}
use Rattle.ots_tree.specs.declared.detached.Detached.{Detached}
use Rattle.ots_tree.specs.declared.pending.PendingAt.{PendingAt}
use Rattle.ots_tree.specs.Made.{after}
use Rattle.ots_tree.specs.Pending.{asked, pending_from}
use Rattle.ots_tree.specs.Sound.{length_after, IsSoundPath, IsSoundPre}
use Rattle.ots_tree.specs.Wire.{Node, Path, paths, pre}
use Rattle.ots_tree.proofs.Closing.{all-append}
use Rattle.ots_tree.proofs.Determined.{same_pre}
use Rattle.ots_canon.specs.Order.{Has}
use Rattle.ots_canon.proofs.Joins.{sound_paths, sound_tree}
use Rattle.ots_pending.specs.Pairs.{Pair, PairAt, asked_by, is_same, once, deepest, at_depth, ArePairs}
use Rattle.ots_pending.specs.Completed.{tree_for, answer_to, paths_after, gained, AreSoundFor, IsCompleted}
use Rattle.ots_pending.proofs.Askable.{value_length}
use Rattle.ots_pending.proofs.Lists.{some_same, none_some, get_mapped}
use Rattle.ots_pending.proofs.Putting.{given_at}
use Rattle.ots_pending.proofs.Raising.{same_of, of_same}

-- ---- how deep a pair stands

deeper : (b : Bool) (d e : ℕ) → e ≤ cond b (max d e) e
deeper true d e = omega arith
deeper false d e = omega arith

later_deep : (p : Pair) (xs ys : List PendingAt) → deepest p ys ≤ deepest p (xs ++ ys)
later_deep p [] ys = omega arith
later_deep p (x ∷ xs) ys =
    let rest = later_deep p xs ys in
    let more = deeper (is_same p (asked_by x)) x.depth (deepest p (xs ++ ys)) in
    omega arith

first_deep : (b : Bool) (d e : ℕ) → b ≡ true → d ≤ cond b (max d e) e
first_deep true d e h = omega arith
first_deep false d e h = absurd cc

itself : (p : Pair) → is_same p p ≡ true
itself p = of_same p p (record { uri = refl; message = refl })

pub stands_deep : (digest : List ℕ) (n : ℕ) (ps : List Path) (p : Path) (uri m : List ℕ) → Has ps p → p.end ≡ attestation.Pending uri → value p.ops digest ≡ Some m
    → length p.ops ≤ deepest (record { uri = uri; message = m }) (pending_from digest n ps)
stands_deep digest n [] p uri m h end reached = absurd h
stands_deep digest n (q ∷ ps) p uri m (inl is) end reached =
    let wanted : Pair = record { uri = uri; message = m } in
    let one : asked n (length q.ops) q.end (value q.ops digest) ≡ record { path = n; depth = length p.ops; uri = uri; message = m } ∷ [] =
    ap (λ (z : Path). asked n (length z.ops) z.end (value z.ops digest)) is
    ∙ ap (λ (z : Attestation). asked n (length p.ops) z (value p.ops digest)) end
    ∙ ap (asked n (length p.ops) (attestation.Pending uri)) reached in
    subst (λ (z : List PendingAt). length p.ops ≤ deepest wanted (z ++ pending_from digest (n + 1) ps)) (sym one)
    (first_deep (is_same wanted wanted) (length p.ops) (deepest wanted (pending_from digest (n + 1) ps)) (itself wanted))
stands_deep digest n (q ∷ ps) p uri m (inr h) end reached =
    let rest = stands_deep digest (n + 1) ps p uri m h end reached in
    let more = later_deep (record { uri = uri; message = m }) (asked n (length q.ops) q.end (value q.ops digest)) (pending_from digest (n + 1) ps) in
    omega arith

-- ---- the tree for a pair

pub record Gave (p : Pair) (qs : List PairAt) (given : List (Option Node)) (t : Node) : Type 0 where
  pub place : ℕ
  pub pair : PairAt
  pub there : slice_get qs place ≡ Some pair
  pub same : is_same p pair.pair ≡ true
  pub gave : slice_get given place ≡ Some (Some t)

by_test : (p : Pair) (q : PairAt) (qs : List PairAt) (u : Option Node) (given : List (Option Node)) (t : Node) (b : Bool) → is_same p q.pair ≡ b
    → (tree_for p qs given ≡ Some t → Gave p qs given t) → cond b u (tree_for p qs given) ≡ Some t → Gave p (q ∷ qs) (u ∷ given) t
by_test p q qs u given t true e others h = record { place = 0; pair = q; there = refl; same = e; gave = ap (λ (z : Option Node). Some z) h }
by_test p q qs u given t false e others h = let g = others h in record { place = suc g.place; pair = g.pair; there = g.there; same = g.same; gave = g.gave }

pub gave : (p : Pair) (qs : List PairAt) (given : List (Option Node)) (t : Node) → tree_for p qs given ≡ Some t → Gave p qs given t
gave p [] given t h = absurd (none_some t h)
gave p (q ∷ qs) [] t h = absurd (none_some t h)
gave p (q ∷ qs) (u ∷ given) t h = by_test p q qs u given t (is_same p q.pair) refl (gave p qs given t) h

-- ---- paths after others

step_append : (ops more : List Op) (x : Option ℕ) (r : ℕ) → option_and_then (length_after ops) x ≡ Some r
    → ((n : ℕ) → length_after ops n ≡ Some r → length_after (ops ++ more) n ≡ length_after more r) → option_and_then (length_after (ops ++ more)) x ≡ length_after more r
step_append ops more None r h others = absurd (none_some r h)
step_append ops more (Some n) r h others = others n h

after_append : (ops more : List Op) (n r : ℕ) → length_after ops n ≡ Some r → length_after (ops ++ more) n ≡ length_after more r
after_append [] more n r h = ap (length_after more) (some_same n r h)
after_append (o ∷ ops) more n r h = step_append ops more (len o n) r h (λ k. after_append ops more k r)

one_after : (n k r : ℕ) (ops : List Op) (q : Path) → length ops ≤ k → length_after ops n ≡ Some r → IsSoundPath r k q → IsSoundPath n 0 (after ops q)
one_after n k r ops q low after h = record {
  short = (let short = h.short in omega (arith, length-append ops q.ops));
  has_result = subst IsSome (sym (after_append ops q.ops n r after)) h.has_result;
}

all_after : (n k r : ℕ) (ops : List Op) (qs : List Path) → length ops ≤ k → length_after ops n ≡ Some r → AllByRecursion (IsSoundPath r k) qs
    → AllByRecursion (IsSoundPath n 0) (map (after ops) qs)
all_after n k r ops [] low after h = tt
all_after n k r ops (q ∷ qs) low after h = (one_after n k r ops q low after h.0, all_after n k r ops qs low after h.1)

pub all_flat : (Q : Path → Type 0) (f : Path → List Path) (ps : List Path) → ((p : Path) → Has ps p → AllByRecursion Q (f p)) → AllByRecursion Q (flat_map f ps)
all_flat Q f [] h = tt
all_flat Q f (p ∷ ps) h = all-append Q (f p) (flat_map f ps) (h p (inl refl)) (all_flat Q f ps (λ q has. h q (inr has)))

-- ---- what a path gains

module _ (proof : Detached) (pairs : List PairAt) (trees : List (Option (List Token))) (given : List (Option Node)) (pairs_are : ArePairs proof pairs) (sound : AreSoundFor pairs trees)
    (given_are : map (option_map pre) given ≡ trees) where
  depth_is : (i : ℕ) (q : PairAt) → slice_get pairs i ≡ Some q → q.depth ≡ deepest q.pair pairs_are.found
  depth_is i q h =
      let r = get_mapped (at_depth pairs_are.found) (once (map asked_by pairs_are.found)) i q (ap (λ (z : List PairAt). slice_get z i) (sym pairs_are.are) ∙ h) in
      sym (ap (λ (z : PairAt). z.depth) r.2) ∙ ap (λ (z : PairAt). deepest z.pair pairs_are.found) r.2

  tree_sound : (p : Path) (uri m : List ℕ) (t : Node) → Has (paths pairs_are.pending.node) p → p.end ≡ attestation.Pending uri → value p.ops proof.digest ≡ Some m
      → tree_for (record { uri = uri; message = m }) pairs given ≡ Some t → AllByRecursion (IsSoundPath (length proof.digest) 0) (map (after p.ops) (paths t))
  tree_sound p uri m t has end reached h =
      let g = gave (record { uri = uri; message = m }) pairs given t h in
      let s = same_of (record { uri = uri; message = m }) g.pair.pair g.same in
      let pair_is : (let q : Pair = record { uri = uri; message = m } in q) ≡ g.pair.pair = λ i. record { uri = s.uri i; message = s.message i } in
      let there : slice_get trees g.place ≡ Some (Some (pre t)) = given_at given trees g.place (Some t) given_are g.gave in
      let tree : IsSoundPre (length m) g.pair.depth (pre t) = subst (λ (z : List ℕ). IsSoundPre (length z) g.pair.depth (pre t)) (sym s.message) (sound g.place (Some (pre t)) there g.pair g.there) in
      let deep : length p.ops ≤ deepest (record { uri = uri; message = m }) pairs_are.found =
      subst (λ (z : List PendingAt). length p.ops ≤ deepest (record { uri = uri; message = m }) z) (sym pairs_are.pending.are)
      (stands_deep proof.digest 0 (paths pairs_are.pending.node) p uri m has end reached) in
      let low : length p.ops ≤ g.pair.depth =
      subst (λ (z : ℕ). length p.ops ≤ z) (sym (depth_is g.place g.pair g.there)) (subst (λ (z : Pair). length p.ops ≤ deepest z pairs_are.found) pair_is deep) in
      all_after (length proof.digest) g.pair.depth (length m) p.ops (paths t) low (value_length p.ops proof.digest m reached) (sound_paths (length m) g.pair.depth (pre t) t refl tree)

  by_tree : (p : Path) (uri m : List ℕ) (t : Option Node) → Has (paths pairs_are.pending.node) p → p.end ≡ attestation.Pending uri → value p.ops proof.digest ≡ Some m
      → tree_for (record { uri = uri; message = m }) pairs given ≡ t → AllByRecursion (IsSoundPath (length proof.digest) 0) (paths_after p.ops t)
  by_tree p uri m None has end reached h = tt
  by_tree p uri m (Some t) has end reached h = tree_sound p uri m t has end reached h

  by_end : (p : Path) (a : Attestation) (v : Option (List ℕ)) → Has (paths pairs_are.pending.node) p → p.end ≡ a → value p.ops proof.digest ≡ v
      → AllByRecursion (IsSoundPath (length proof.digest) 0) (paths_after p.ops (answer_to pairs given a v))
  by_end p (attestation.Pending uri) (Some m) has end reached = by_tree p uri m (tree_for (record { uri = uri; message = m }) pairs given) has end reached refl
  by_end p (attestation.Pending uri) None has end reached = tt
  by_end p (attestation.Bitcoin height) v has end reached = tt
  by_end p (attestation.Litecoin height) v has end reached = tt
  by_end p (attestation.Unknown other) v has end reached = tt

  pub gains_sound : AllByRecursion (IsSoundPath (length proof.digest) 0) (flat_map (gained pairs given (Some proof.digest)) (paths pairs_are.pending.node))
  gains_sound = all_flat (IsSoundPath (length proof.digest) 0) (gained pairs given (Some proof.digest)) (paths pairs_are.pending.node) (λ p has. by_end p p.end (value p.ops proof.digest) has refl refl)

pub completed_sound : (proof : Detached) (pairs : List PairAt) (trees : List (Option (List Token))) (made : List Token) → ArePairs proof pairs → AreSoundFor pairs trees
    → IsSoundPre (length proof.digest) 0 proof.tree → IsCompleted proof pairs trees made → IsSoundPre (length proof.digest) 0 made
completed_sound proof pairs trees made pairs_are sound tree h =
    let one : pairs_are.pending.node ≡ h.node = same_pre pairs_are.pending.node h.node (pairs_are.pending.tree ∙ sym h.tree) in
    let gains = subst (λ (z : Node). AllByRecursion (IsSoundPath (length proof.digest) 0) (flat_map (gained pairs h.given (Some proof.digest)) (paths z))) one (gains_sound proof pairs trees h.given pairs_are sound h.given_are) in
    let old = sound_paths (length proof.digest) 0 proof.tree h.node h.tree tree in
    sound_tree (length proof.digest) 0 (paths h.node ++ flat_map (gained pairs h.given (Some proof.digest)) (paths h.node)) made
    (all-append (IsSoundPath (length proof.digest) 0) (paths h.node) (flat_map (gained pairs h.given (Some proof.digest)) (paths h.node)) old gains) h.form
