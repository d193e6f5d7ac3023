-- Trees that are made of operations and of other trees (python-opentimestamps,
-- opentimestamps/core/timestamp.py: Timestamp, whose nodes stand below operations, and Timestamp.merge).
use Rattle.std.specs.Prelude.{◌≡◌, ℕ, ◌+◌, List, [], ◌∷◌, ◌++◌, length, Some}
use Rattle.ots_ops.specs.declared.op.Op.{Op}
use Rattle.ots_attest.specs.declared.attestation.Attestation.{Attestation}
use Rattle.ots_tree.specs.declared.token.Token.{Token}
use Rattle.ots_tree.specs.Wire.{Node, last, more, attested, step, pre, Path}
use Rattle.ots_tree.specs.Sound.{length_after, IsSoundPre}

-- one operation after another, and a node after the last of them
abbrev pub chain : List Op → Node → Node
chain [] t = t
chain (o ∷ ops) t = last (step o (chain ops t))

-- the tree with one path
abbrev pub lone : List Op → Attestation → Node
lone ops a = chain ops (last (attested a))

-- one node with the items of two, in their order
abbrev pub joined : Node → Node → Node
joined (last i) u = more i u
joined (more i t) u = more i (joined t u)

-- Seen as its tokens, the second tree is a chain of these operations with the first after it.
pub record IsUnder (ops : List Op) (below made : List Token) : Type 0 where
  pub node : Node
  pub node_is : pre node ≡ below
  pub made_is : pre (chain ops node) ≡ made

-- Seen as its tokens, the third tree has the items of the first, and then those of the second.
pub record IsBeside (first second made : List Token) : Type 0 where
  pub one : Node
  pub one_is : pre one ≡ first
  pub other : Node
  pub other_is : pre other ≡ second
  pub made_is : pre (joined one other) ≡ made

-- a path with these operations before its own
abbrev pub after : List Op → Path → Path
after ops p = record { ops = ops ++ p.ops; end = p.end }

-- From a message of n bytes, below k operations, these operations have results, and on the last of
-- them the tree is sound.
pub record IsSoundAfter (ops : List Op) (n k : ℕ) (below : List Token) : Type 0 where
  pub result : ℕ
  pub reached : length_after ops n ≡ Some result
  pub sound : IsSoundPre result (k + length ops) below
