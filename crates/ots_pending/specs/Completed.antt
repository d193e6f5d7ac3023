-- What the answers of calendars make of a proof (opentimestamps-client, otsclient/cmds.py,
-- upgrade_timestamp: what a calendar answers for a pending attestation is merged at its place).
use Rattle.std.specs.Prelude.{◌≡◌, ◌≤◌, ◌<◌, ℕ, List, [], ◌∷◌, ◌++◌, map, length, Option, None, Some}
use Rattle.std.specs.Prelude.{option_map, option_and_then, if◌then◌else◌}
use Rattle.std.specs.List.{flat_map, slice_get}
use Rattle.ots_ops.specs.declared.op.Op.{Op}
use Rattle.ots_ops.specs.Value.{value}
use Rattle.ots_attest.specs.declared.attestation.Attestation.{Attestation}
use Rattle.ots_attest.specs.declared.attestation.Attestation.TheVariants as attestation
use Rattle.ots_tree.specs.declared.token.Token.{Token}
use Rattle.ots_tree.specs.declared.detached.Detached.{Detached}
use Rattle.ots_tree.specs.Made.{after}
use Rattle.ots_tree.specs.Sound.{IsSoundPre}
use Rattle.ots_tree.specs.Wire.{Node, Path, paths, pre, spelled}
use Rattle.ots_canon.specs.Canonical.{IsCanonTree}
use Rattle.ots_pending.specs.Pairs.{Pair, PairAt, is_same}

-- the tree that was given for a pair, where there is one tree or none for each of these pairs
abbrev pub tree_for : Pair → List PairAt → List (Option Node) → Option Node
tree_for p [] given = None
tree_for p (q ∷ qs) [] = None
tree_for p (q ∷ qs) (t ∷ given) = if is_same p q.pair then t else tree_for p qs given

-- the tree that was given for what a path asks for, by its attestation and its message
abbrev pub answer_to : List PairAt → List (Option Node) → Attestation → Option (List ℕ) → Option Node
answer_to pairs given (attestation.Pending uri) (Some m) = tree_for (record { uri = uri; message = m }) pairs given
answer_to pairs given (attestation.Pending uri) None = None
answer_to pairs given (attestation.Bitcoin height) m = None
answer_to pairs given (attestation.Litecoin height) m = None
answer_to pairs given (attestation.Unknown other) m = None

-- these operations followed by each path of a tree, where there is one
abbrev pub paths_after : List Op → Option Node → List Path
paths_after ops None = []
paths_after ops (Some t) = map (after ops) (paths t)

-- what a path gains, from a message
abbrev pub gained : List PairAt → List (Option Node) → Option (List ℕ) → Path → List Path
gained pairs given m p = paths_after p.ops (answer_to pairs given p.end (option_and_then (value p.ops) m))

-- The canonical tree of all paths of a proof and, for each of its pending paths whose pair was given a
-- tree, its operations followed by each path of that tree.
pub record IsCompleted (proof : Detached) (pairs : List PairAt) (trees : List (Option (List Token)))
    (made : List Token) : Type 0 where
  pub node : Node
  pub tree : pre node ≡ proof.tree
  pub given : List (Option Node)
  pub given_are : map (option_map pre) given ≡ trees
  pub form : IsCanonTree (paths node ++ flat_map (gained pairs given (Some proof.digest)) (paths node)) made

-- A tree, if it is one, is sound for the message of the pair at a place, below as many operations as are
-- before the pair where it stands deepest.
abbrev pub IsSoundFor : List PairAt → ℕ → Option (List Token) → Type 0
IsSoundFor pairs i None = Unit {0}
IsSoundFor pairs i (Some ts) = (p : PairAt) → slice_get pairs i ≡ Some p → IsSoundPre (length p.pair.message) p.depth ts

-- so is each tree that was given for a pair
abbrev pub AreSoundFor : List PairAt → List (Option (List Token)) → Type 0
AreSoundFor pairs trees = (i : ℕ) (tree : Option (List Token)) → slice_get trees i ≡ Some tree → IsSoundFor pairs i tree

-- A tree is told where its spelling has at most so many bytes, and none where it has more.
abbrev pub IsToldWithin : ℕ → List Token → Option (List Token) → Type 0
IsToldWithin most made None = most < length (spelled made)
IsToldWithin most made (Some tree) = (length (spelled made) ≤ most) × (tree ≡ made)

-- A proof has a completed tree, which is sound for its digest, and this is told where it has at most so many bytes.
pub record IsCompletedWithin (proof : Detached) (pairs : List PairAt) (trees : List (Option (List Token))) (most : ℕ)
    (result : Option (List Token)) : Type 0 where
  pub made : List Token
  pub completed : IsCompleted proof pairs trees made
  pub sound : IsSoundPre (length proof.digest) 0 made
  pub told : IsToldWithin most made result
