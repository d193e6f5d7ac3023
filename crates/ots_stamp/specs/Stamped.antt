-- What is made of files that are stamped together. Source: the client of the reference library (opentimestamps-client,
-- otsclient/cmds.py, stamp_command): each digest is hashed with a nonce of its own, and one tree stands over all of
-- these.
use Rattle.std.specs.Prelude.{◌≡◌, ℕ, List, [], ◌∷◌, ◌++◌, length, map, Option, None, Some}
use Rattle.std.specs.List.{flat_map}
use Rattle.sha2.specs.Sha256.{sha256}
use Rattle.ots_ops.specs.declared.op.Op.{Op}
use Rattle.ots_ops.specs.declared.hash_op.HashOp.TheVariants as hash
use Rattle.ots_tree.specs.declared.token.Token.{Token}
use Rattle.ots_tree.specs.declared.detached.Detached.{Detached}
use Rattle.ots_tree.specs.Made.{after, joined}
use Rattle.ots_tree.specs.Sound.{IsSoundPre}
use Rattle.ots_tree.specs.Wire.{Node, paths, pre}
use Rattle.ots_canon.specs.Canonical.{IsCanonOf, IsCanonTree}
use Rattle.ots_merkle.specs.CalendarTree.{root}
use Rattle.ots_stamp.specs.declared.target.Target.{Target}
use Rattle.ots_asking.specs.Outcome.{AreSound}
use Rattle.ots_stamp.specs.Ways.{IsDepth, way_from}
use Rattle.ots_asking.specs.declared.outcome.Outcome.{Outcome}
use Rattle.ots_asking.specs.declared.outcome.Outcome.TheVariants as outcome

-- the leaf of a file: SHA-256 (FIPS 180-4) of its digest and then its nonce
abbrev pub leaf : Target → List ℕ
leaf t = sha256 (t.digest ++ t.nonce)

abbrev pub leaves : List Target → List (List ℕ)
leaves targets = map leaf targets

-- the operations from a file's digest to the root: its nonce is put after it, that is hashed, and its path follows
abbrev pub to_root : List (List ℕ) → ℕ → Target → List Op
to_root leaves i t = way_from leaves i t.nonce

-- the trees that calendars answered, in order
abbrev pub good_trees : List Outcome → List (List Token)
good_trees [] = []
good_trees (outcome.Tree tree ∷ outcomes) = tree ∷ good_trees outcomes
good_trees (outcome.Unreachable ∷ outcomes) = good_trees outcomes
good_trees (outcome.Status code ∷ outcomes) = good_trees outcomes
good_trees (outcome.TooLong ∷ outcomes) = good_trees outcomes
good_trees (outcome.BadHttp ∷ outcomes) = good_trees outcomes
good_trees (outcome.BadReply fault ∷ outcomes) = good_trees outcomes

-- The proof of one of these files: in canonical form, its paths are those of every good tree, each after the operations
-- from the digest to the root.
pub record IsStampOf (targets : List Target) (i : ℕ) (t : Target) (trees : List (List Token))
    (proof : Detached) : Type 0 where
  pub hash : proof.hash ≡ hash.Sha256
  pub digest : proof.digest ≡ t.digest
  pub nodes : List Node
  pub are : map pre nodes ≡ trees
  pub form : IsCanonTree (map (after (to_root (leaves targets) i t)) (flat_map paths nodes)) proof.tree

-- Below the root of these files, and the operations before it, the tree is sound.
abbrev pub IsSoundBelow : List Target → List Token → Type 0
IsSoundBelow targets good = (depth : ℕ) × IsDepth (leaves targets) depth
    × IsSoundPre (length (root (leaves targets))) depth good

-- Below the root of these files each good tree is sound.
abbrev pub AreSoundBelow : List Target → List Outcome → Type 0
AreSoundBelow targets outcomes = (depth : ℕ) × IsDepth (leaves targets) depth
    × AreSound (length (root (leaves targets))) depth outcomes

abbrev pub IsGatheredBelow : List Target → Option (List Token) → Type 0
IsGatheredBelow targets None = Unit {0}
IsGatheredBelow targets (Some good) = IsSoundBelow targets good

-- ---- for the code

-- one node with the items of all these, in their order
abbrev pub joined_all : Node → List Node → Node
joined_all t [] = t
joined_all t (u ∷ us) = joined_all (joined t u) us

-- A node has the items of all these, of which there is at least one.
abbrev pub AreJoined : List Node → Node → Type 0
AreJoined [] node = ⊥
AreJoined (t ∷ ts) node = node ≡ joined_all t ts

-- One tree has the items of all these, in order, and so their paths.
pub record Gathers (trees : List (List Token)) (made : List Token) : Type 0 where
  pub nodes : List Node
  pub are : map pre nodes ≡ trees
  pub node : Node
  pub is : pre node ≡ made
  pub joined_are : AreJoined nodes node
  pub paths_are : paths node ≡ flat_map paths nodes

-- A canonical tree has the paths of all these: it is the canonical form of one that has their items.
pub record GathersForm (trees : List (List Token)) (form : List Token) : Type 0 where
  pub good : List Token
  pub gathers : Gathers trees good
  pub canon : IsCanonOf good form

-- One tree has the items of all these, or there is none.
abbrev pub GathersAny : List (List Token) → Option (List Token) → Type 0
GathersAny trees None = trees ≡ []
GathersAny trees (Some made) = Gathers trees made
