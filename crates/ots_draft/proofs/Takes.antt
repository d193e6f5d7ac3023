-- The proof that trees make of a draft.
use Rattle.std.proofs.Common.{◌≡◌, ◌∙◌, ◌<◌, ◌≤◌, ◌+◌, ℕ, List, [], ◌∷◌, ◌++◌, length, map, Option, None, Some, refl, sym, ap, subst, arith, length-append}
use Rattle.std.specs.List.{AllByRecursion, flat_map}
use Rattle.std.proofs.lemmas.Grind.{flat_map-append}
use Rattle.ots_canon.proofs.Joins.{sound_paths, sound_tree}
use Rattle.ots_canon.specs.Canonical.{IsCanonTree}
use Rattle.ots_draft.proofs.AfterOps.{canon_after}
use Rattle.ots_draft.proofs.Founded.{long_after}
use Rattle.ots_draft.specs.Draft.{IsDraft, IsTaken, IsTakenWithin}
use Rattle.ots_draft.specs.inner.Gathering.{HaveForm}
use Rattle.ots_ops.specs.declared.op.Op.{Op}
use Rattle.ots_tree.proofs.Closing.{all-append}
use Rattle.ots_tree.proofs.MadePaths.{pre-chain, sound_under}
use Rattle.ots_tree.specs.Made.{IsSoundAfter, IsUnder, chain}
use Rattle.ots_tree.specs.Sound.{IsSoundPath, IsSoundPre, length_after}
use Rattle.ots_tree.specs.Wire.{Node, paths, pre, spell, spelled}
use Rattle.ots_tree.specs.declared.detached.Detached.{Detached}
use Rattle.ots_tree.specs.declared.token.Token.{Token}
use Rattle.ots_tree.specs.declared.token.Token.TheVariants as token

sound_flat : (n k : ℕ) (nodes : List Node) (trees : List (List Token)) → map pre nodes ≡ trees → AllByRecursion (IsSoundPre n k) trees
    → AllByRecursion (IsSoundPath n k) (flat_map paths nodes)
sound_flat n k [] trees are all = tt
sound_flat n k (node ∷ nodes) [] are all = absurd cc
sound_flat n k (node ∷ nodes) (tree ∷ trees) are all =
    all-append (IsSoundPath n k) (paths node) (flat_map paths nodes) (sound_paths n k tree node (cc) all.0) (sound_flat n k nodes trees (cc) all.1)

-- it is sound for the draft's digest
pub taken_sound : (proof : Detached) (ops : List Op) (trees : List (List Token)) (whole tree : List Token) → IsDraft proof ops
    → AllByRecursion (IsSoundPre 32 (length ops)) trees → HaveForm trees whole → IsUnder ops whole tree → IsSoundPre (length proof.digest) 0 tree
taken_sound proof ops trees whole tree draft sound is under =
    let below = sound_tree 32 (length ops) (flat_map paths is.nodes) whole (sound_flat 32 (length ops) is.nodes trees is.are sound) is.canon in
    let reached : length_after ops (length proof.digest) ≡ Some 32 =
    long_after ops proof.digest draft.message draft.reached ∙ ap (λ (n : ℕ). Some n) draft.hash_long in
    let deep : length ops ≡ 0 + length ops = omega arith in
    (sound_under (length proof.digest) 0 ops whole tree under).1
    (record { result = 32; reached = reached; sound = subst (λ (k : ℕ). IsSoundPre 32 k whole) deep below })

pub taken_is : (proof : Detached) (ops : List Op) (trees : List (List Token)) (whole : List Token) (made : Detached) → made.hash ≡ proof.hash
    → made.digest ≡ proof.digest → HaveForm trees whole → IsUnder ops whole made.tree → IsTaken proof ops trees made
taken_is proof ops trees whole made hash digest is under = record {
  hash = hash;
  digest = digest;
  nodes = is.nodes;
  are = is.are;
  form = canon_after ops (flat_map paths is.nodes) whole made.tree is.canon under;
}

pub told_taken : (proof : Detached) (ops : List Op) (trees : List (List Token)) (most : ℕ) (made : Detached) → IsTaken proof ops trees made
    → length (spelled made.tree) ≤ most → IsTakenWithin proof ops trees most (Some made)
told_taken proof ops trees most made taken short = record { made = made; taken = taken; told = (short, refl) }

pub long_taken : (proof : Detached) (ops : List Op) (trees : List (List Token)) (most : ℕ) (whole tree : List Token) → IsDraft proof ops
    → AllByRecursion (IsSoundPre 32 (length ops)) trees → HaveForm trees whole → IsUnder ops whole tree → most < length (spelled tree)
    → IsTakenWithin proof ops trees most None
long_taken proof ops trees most whole tree draft sound is under long =
    let made : Detached = record {
      hash = proof.hash;
      digest = proof.digest;
      tree = tree;
      digest_of_hash = proof.digest_of_hash;
      tree_sound = ∣ taken_sound proof ops trees whole tree draft sound is under ∣₁;
    } in
    record { made = made; taken = taken_is proof ops trees whole made refl refl is under; told = long }

-- where the canonical form alone is too long
pub form_long : (proof : Detached) (ops : List Op) (trees : List (List Token)) (most : ℕ) (whole : List Token) → IsDraft proof ops
    → AllByRecursion (IsSoundPre 32 (length ops)) trees → HaveForm trees whole → most < length (spelled whole) → IsTakenWithin proof ops trees most None
form_long proof ops trees most whole draft sound is long =
    let node = is.canon.node in
    let tree : List Token = pre (chain ops node) in
    let steps : List Token = map (λ o. token.Op o) ops in
    let all : spelled tree ≡ spelled steps ++ spelled whole =
    ap spelled (pre-chain ops node ∙ ap (λ (ts : List Token). steps ++ ts) is.canon.are) ∙ flat_map-append spell steps whole in
    long_taken proof ops trees most whole tree draft sound is (record { node = node; node_is = is.canon.are; made_is = refl })
    (omega (arith, ap length all, length-append (spelled steps) (spelled whole), long))
