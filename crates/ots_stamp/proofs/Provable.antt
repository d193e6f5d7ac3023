-- Each file that is stamped has a proof.
use Rattle.std.proofs.Common.{◌≡◌, ◌∙◌, ℕ, List, [], ◌∷◌, ◌++◌, map, refl, sym, subst, inl}
use Rattle.std.specs.Prelude.{◌≢◌, ◌↔◌}
use Rattle.std.specs.List.{AllByRecursion}
use Rattle.ots_ops.specs.declared.op.Op.{Op}
use Rattle.ots_canon.specs.Canonical.{IsCanonOf, IsTreeOf}
use Rattle.ots_canon.specs.Order.{Has, IsCanon, IsRising, IsWithin}
use Rattle.ots_tree.proofs.Closing.{all-append, all-left, all-right, node_path}
use Rattle.ots_tree.specs.declared.token.Token.{Token}
use Rattle.ots_tree.specs.Made.{IsUnder, after, chain}
use Rattle.ots_tree.specs.Wire.{IsToken, Item, Node, Path, attested, below, last, more, paths, paths_of_item, pre, pre_item, step}
use Rattle.ots_tree.specs.Made.{IsSoundAfter}
use Rattle.ots_tree.specs.Sound.{IsSoundPre}
use Rattle.ots_tree.specs.declared.detached.Detached.{Detached}
use Rattle.ots_ops.specs.declared.hash_op.HashOp.TheVariants as hash
use Rattle.ots_stamp.specs.Batch.{IsCanonUnder}
use Rattle.ots_stamp.specs.Stamped.{Gathers, IsStampOf, leaves, to_root}
use Rattle.ots_stamp.specs.declared.target.Target.{Target}
use Rattle.ots_stamp.proofs.Founded.{proof_paths, sound_proof}

pub paths_some : (t : Node) → paths t ≢ []
paths_some t none = let p = node_path t in let same = sym p.are ∙ none in absurd cc

-- ---- the attestations of a tree within its limits are within theirs

within_map : (f : Path → Path) → ((p : Path) → IsWithin p → IsWithin (f p)) → (ps : List Path) → AllByRecursion IsWithin ps → AllByRecursion IsWithin (map f ps)
within_map f same [] all = tt
within_map f same (p ∷ ps) all = (same p all.0, within_map f same ps all.1)

mutual
  within : (t : Node) → AllByRecursion IsToken (pre t) → AllByRecursion IsWithin (paths t)
  within (last i) all = within_item i all
  within (more i t) all =
      all-append IsWithin (paths_of_item i) (paths t) (within_item i (all-left IsToken (pre_item i) (pre t) all.1)) (within t (all-right IsToken (pre_item i) (pre t) all.1))

  within_item : (i : Item) → AllByRecursion IsToken (pre_item i) → AllByRecursion IsWithin (paths_of_item i)
  within_item (attested a) all = (all.0, tt)
  within_item (step o t) all = within_map (below o) (λ p h. h) (paths t) (within t all.1)

-- ---- a canonical form

some_has : (ps : List Path) → ps ≢ [] → (p : Path) × Has ps p
some_has [] some = absurd (some refl)
some_has (p ∷ ps) some = (p, inl refl)

none_has : (qs : List Path) (p : Path) → qs ≡ [] → Has qs p → ⊥
none_has [] p none has = has
none_has (q ∷ qs) p none has = absurd cc

module _ (some_path : (t : Node) → paths t ≢ [])
    (some_canon : (ps : List Path) → AllByRecursion IsWithin ps → (qs : List Path) × IsCanon ps qs)
    (some_tree : (ps : List Path) → ps ≢ [] → IsRising ps → (t : Node) × IsTreeOf ps t)
    (chained : (ops : List Op) (t : Node) → paths (chain ops t) ≡ map (after ops) (paths t)) where
  canon_of : (t : Node) → AllByRecursion IsWithin (paths t) → (form : List Token) × IsCanonOf (pre t) form
  canon_of t all =
      let sorted = some_canon (paths t) all in
      let first = some_has (paths t) (some_path t) in
      let tree = some_tree sorted.0 (λ none. none_has sorted.0 first.0 none ((sorted.1.same first.0).0 first.1)) sorted.1.rising in
      (pre tree.0, record { node = t; are = refl; form = record { sorted = sorted.0; is_canon = sorted.1; node = tree.0; is_tree = tree.1; are = refl } })

  pub canon_under : (ops : List Op) (t : Node) (good : List Token) → pre t ≡ good → AllByRecursion IsToken good → (form : List Token) × IsCanonUnder ops good form
  canon_under ops t good is limits =
      let all : AllByRecursion IsWithin (paths (chain ops t)) =
      subst (AllByRecursion IsWithin) (sym (chained ops t)) (within_map (after ops) (λ p h. h) (paths t) (within t (subst (AllByRecursion IsToken) (sym is) limits))) in
      let form = canon_of (chain ops t) all in
      (form.0, record { made = pre (chain ops t); under = record { node = t; node_is = is; made_is = refl }; canon = form.1 })

-- ---- the proof

pub has_proof : ((t : Node) → paths t ≢ []) → ((ps : List Path) → AllByRecursion IsWithin ps → (qs : List Path) × IsCanon ps qs)
    → ((ps : List Path) → ps ≢ [] → IsRising ps → (t : Node) × IsTreeOf ps t) → ((ops : List Op) (t : Node) → paths (chain ops t) ≡ map (after ops) (paths t))
    → ((t u : Node) (x y : List Token) → pre t ++ x ≡ pre u ++ y → (t ≡ u) × (x ≡ y))
    → ((n k : ℕ) (ops : List Op) (below made : List Token) → IsUnder ops below made → IsSoundPre n k made ↔ IsSoundAfter ops n k below)
    → ((n k : ℕ) (ts us : List Token) → IsSoundPre n k ts → IsCanonOf ts us → IsSoundPre n k us)
    → (targets : List Target) (i : ℕ) (t : Target) (trees : List (List Token)) (good : List Token) → AllByRecursion IsToken good
    → IsSoundAfter (to_root (leaves targets) i t) 32 0 good → Gathers trees good → (proof : Detached) × IsStampOf targets i t trees proof
has_proof some_path some_canon some_tree chained one unders canons targets i t trees good limits sound gathered =
    let ops = to_root (leaves targets) i t in
    let form = canon_under some_path some_canon some_tree chained ops gathered.node good gathered.is limits in
    let proof : Detached = record {
      hash = hash.Sha256;
      digest = t.digest;
      tree = form.0;
      digest_of_hash = t.is_sha256;
      tree_sound = ∣ subst (λ (n : ℕ). IsSoundPre n 0 form.0) (sym t.is_sha256) (sound_proof unders canons ops good form.0 form.1 sound) ∣₁;
    } in
    (proof, record { hash = refl; digest = refl; nodes = gathered.nodes; are = gathered.are; form = proof_paths one chained trees ops good form.0 gathered form.1 })
