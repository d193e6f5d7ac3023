-- The proof of a file that is stamped, from the trees that calendars answered.
use Rattle.std.proofs.Common.{◌≡◌, ◌<◌, ◌≤◌, ℕ, zero, suc, Bool, true, false, cond, List, [], ◌∷◌, ◌++◌, length, map, get_or, Option, None, Some, refl, sym, ap, subst, ◌∙◌, arith, append-nil}
use Rattle.std.specs.Prelude.{◌↔◌, option_and_then, option_map}
use Rattle.std.specs.List.{AllByRecursion, flat_map}
use Rattle.std.proofs.lemmas.List.{length-map}
use Rattle.sha2.proofs.Facts256.{length-sha256}
use Rattle.ots_ops.specs.Apply.{applied}
use Rattle.ots_ops.specs.ResultLength.{len, made}
use Rattle.ots_ops.specs.Value.{value}
use Rattle.ots_ops.specs.declared.op.Op.{Op}
use Rattle.ots_canon.specs.Canonical.{IsCanonOf, IsCanonTree}
use Rattle.ots_merkle.specs.CalendarTree.{path, root}
use Rattle.ots_merkle.specs.Hashes.{AreHashes}
use Rattle.ots_tree.specs.declared.token.Token.{Token}
use Rattle.ots_tree.specs.Made.{IsSoundAfter, IsUnder, after, chain}
use Rattle.ots_tree.specs.Sound.{IsSoundPath, IsSoundPre, length_after}
use Rattle.ots_tree.specs.Wire.{Node, Path, paths, pre}
use Rattle.ots_stamp.specs.declared.target.Target.{Target}
use Rattle.ots_stamp.specs.Batch.{IsCanonUnder}
use Rattle.ots_stamp.specs.Stamped.{Gathers, leaf, leaves, to_root}
use Rattle.ots_stamp.specs.Ways.{IsDepth}

-- ---- how long the results of operations are

is_made : (b : Bool) (n r : ℕ) → cond b (Some n) None ≡ Some r → r ≡ n
is_made false n r e = absurd cc
is_made true n r e = cc

one_length : (o : Op) (ops : List Op) (m r : List ℕ) (x : Option ℕ) → len o (length m) ≡ x → length (applied o m) ≡ made o (length m)
    → ((y : List ℕ) → value ops y ≡ Some r → length_after ops (length y) ≡ Some (length r))
    → option_and_then (value ops) (option_map (λ n. applied o m) x) ≡ Some r → option_and_then (length_after ops) x ≡ Some (length r)
one_length o ops m r None e long others is = absurd cc
one_length o ops m r (Some n) e long others is =
    subst (λ (z : ℕ). length_after ops z ≡ Some (length r)) (long ∙ sym (is_made _ (made o (length m)) n e)) (others (applied o m) is)

-- the length of a value is what the lengths alone come to
pub lengths : ((o : Op) (m : List ℕ) → length (applied o m) ≡ made o (length m)) → (ops : List Op) (m r : List ℕ)
    → value ops m ≡ Some r → length_after ops (length m) ≡ Some (length r)
lengths law [] m r is = ap (option_map length) is
lengths law (o ∷ ops) m r is = one_length o ops m r (len o (length m)) refl (law o m) (λ y. lengths law ops y r) is

-- ---- a tree is sound below fewer operations, too

shallower : (n k j : ℕ) (ps : List Path) → j ≤ k → AllByRecursion (IsSoundPath n k) ps → AllByRecursion (IsSoundPath n j) ps
shallower n k j [] less all = tt
shallower n k j (p ∷ ps) less all =
    (record { short = let short = all.0.short in omega arith; has_result = all.0.has_result }, shallower n k j ps less all.1)

less_deep : (n k j : ℕ) (ts : List Token) → j ≤ k → IsSoundPre n k ts → IsSoundPre n j ts
less_deep n k j ts less (t, sound, is) = (t, shallower n k j (paths t) less sound, is)

-- ---- from a file to the root

pub are_hashes : (targets : List Target) → AreHashes (leaves targets)
are_hashes [] = tt
are_hashes (t ∷ targets) = (length-sha256 (t.digest ++ t.nonce), are_hashes targets)

-- the leaf of a file
pub leaf_at : (targets : List Target) (i : ℕ) (t : Target) → i < length targets → t ≡ get_or targets i t → get_or (leaves targets) i [] ≡ leaf t
leaf_at [] i t less is = absurd (omega arith)
leaf_at (x ∷ targets) zero t less is = ap leaf (sym is)
leaf_at (x ∷ targets) (suc i) t less is = leaf_at targets i t (omega arith) is

-- below the operations to the root the gathered trees are sound
pub sound_after : ((o : Op) (m : List ℕ) → length (applied o m) ≡ made o (length m)) → (targets : List Target) (i : ℕ) (t : Target) (good : List Token)
    → ((ls : List (List ℕ)) (j : ℕ) → AreHashes ls → j < length ls → value (path ls j) (get_or ls j []) ≡ Some (root ls))
    → i < length targets → t ≡ get_or targets i t → length t.digest ≡ 32 → length t.nonce ≡ 16 → (depth : ℕ) → IsDepth (leaves targets) depth
    → IsSoundPre (length (root (leaves targets))) depth good → IsSoundAfter (to_root (leaves targets) i t) 32 0 good
sound_after law targets i t good leads less is digest nonce depth deepest sound =
    let below : i < length (leaves targets) = rw (length-map targets leaf) less in
    let high = deepest.most i below in
    let led : value (path (leaves targets) i) (leaf t) ≡ Some (root (leaves targets)) =
    subst (λ (m : List ℕ). value (path (leaves targets) i) m ≡ Some (root (leaves targets))) (leaf_at targets i t less is) (leads (leaves targets) i (are_hashes targets) below) in
    let reached : length_after (path (leaves targets) i) 32 ≡ Some (length (root (leaves targets))) =
    subst (λ (n : ℕ). length_after (path (leaves targets) i) n ≡ Some (length (root (leaves targets)))) (length-sha256 (t.digest ++ t.nonce))
    (lengths law (path (leaves targets) i) (leaf t) (root (leaves targets)) led) in
    record {
      result = length (root (leaves targets));
      reached = rw nonce reached;
      sound = less_deep (length (root (leaves targets))) depth _ good (omega arith) sound;
    }

-- ---- the proof

-- its tree is sound for the digest
pub sound_proof : ((n k : ℕ) (ops : List Op) (below made : List Token) → IsUnder ops below made → IsSoundPre n k made ↔ IsSoundAfter ops n k below)
    → ((n k : ℕ) (ts us : List Token) → IsSoundPre n k ts → IsCanonOf ts us → IsSoundPre n k us) → (ops : List Op) (good form : List Token)
    → IsCanonUnder ops good form → IsSoundAfter ops 32 0 good → IsSoundPre 32 0 form
sound_proof unders canons ops good form all sound = canons 32 0 all.made form ((unders 32 0 ops good all.made all.under).1 sound) all.canon

-- its paths are those of the gathered trees, after the operations to the root
pub proof_paths : ((t u : Node) (x y : List Token) → pre t ++ x ≡ pre u ++ y → (t ≡ u) × (x ≡ y))
    → ((ops : List Op) (t : Node) → paths (chain ops t) ≡ map (after ops) (paths t)) → (trees : List (List Token)) (ops : List Op) (good form : List Token)
    → (gathered : Gathers trees good) → IsCanonUnder ops good form → IsCanonTree (map (after ops) (flat_map paths gathered.nodes)) form
proof_paths one chained trees ops good form gathered all =
    let below : all.under.node ≡ gathered.node =
    (one all.under.node gathered.node [] [] (append-nil (pre all.under.node) ∙ all.under.node_is ∙ sym gathered.is ∙ sym (append-nil (pre gathered.node)))).0 in
    let same : all.canon.node ≡ chain ops all.under.node =
    (one all.canon.node (chain ops all.under.node) [] []
    (append-nil (pre all.canon.node) ∙ all.canon.are ∙ sym all.under.made_is ∙ sym (append-nil (pre (chain ops all.under.node))))).0 in
    subst (λ (ps : List Path). IsCanonTree ps form)
    (ap paths same ∙ chained ops all.under.node ∙ ap (map (after ops)) (ap paths below ∙ gathered.paths_are)) all.canon.form
