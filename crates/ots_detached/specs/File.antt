-- A detached proof file: 31 magic bytes, the version, the tag of the hash, the digest, the tree.
-- Source: python-opentimestamps, opentimestamps/core/timestamp.py, DetachedTimestampFile.
use Rattle.std.specs.Prelude.{◌≡◌, ℕ, ◌+◌, ◌≤◌, List, [], ◌∷◌, ◌++◌, length, drop}
use Rattle.std.specs.List.{AllByRecursion}
use Rattle.ots_base.specs.declared.limits.TheConstants.{MAX_PROOF_FILE}
use Rattle.ots_ops.specs.declared.hash_op.HashOp.{HashOp}
use Rattle.ots_ops.specs.HashOp.{tag, digest_length}
use Rattle.ots_tree.specs.declared.detached.Detached.{Detached}
use Rattle.ots_tree.specs.Wire.{Node, pre, bytes, spelled, IsToken}
use Rattle.ots_tree.specs.Sound.{IsSound}

abbrev pub magic : List ℕ
magic =
    0x00 ∷ 0x4f ∷ 0x70 ∷ 0x65 ∷ 0x6e ∷ 0x54 ∷ 0x69 ∷ 0x6d ∷ 0x65 ∷ 0x73 ∷ 0x74 ∷ 0x61 ∷ 0x6d ∷ 0x70 ∷ 0x73
    ∷ 0x00 ∷ 0x00 ∷ 0x50 ∷ 0x72 ∷ 0x6f ∷ 0x6f ∷ 0x66
    ∷ 0x00 ∷ 0xbf ∷ 0x89 ∷ 0xe2 ∷ 0xe8 ∷ 0x84 ∷ 0xe8 ∷ 0x92 ∷ 0x94 ∷ []

-- what stands before the tree
abbrev pub header : HashOp → List ℕ → List ℕ
header h d = magic ++ (0x01 ∷ tag h ∷ d)

abbrev pub file : HashOp → List ℕ → Node → List ℕ
file h d t = header h d ++ bytes t

-- what has a file: the digest is as long as the hash's, the tree is sound for a message of that
-- length, and the whole has at most 4,194,304 bytes
pub record HasFile (h : HashOp) (d : List ℕ) (t : Node) : Type 0 where
  pub digest : length d ≡ digest_length h
  pub tokens : AllByRecursion IsToken (pre t)
  pub sound : IsSound (length d) 0 t
  pub size : length (file h d t) ≤ MAX_PROOF_FILE

-- what a proof is written as
unfoldable pub file_of : Detached → List ℕ
file_of p = header p.hash p.digest ++ spelled p.tree

-- these bytes are the file of this proof
pub record IsFileOf (b : List ℕ) (p : Detached) : Type 0 where
  pub tree : Node
  pub tokens : pre tree ≡ p.tree
  pub has_file : HasFile p.hash p.digest tree
  pub spelled : b ≡ file p.hash p.digest tree

-- the bytes begin with the header of this hash and digest
pub record IsHeader (b : List ℕ) (h : HashOp) (d : List ℕ) : Type 0 where
  pub digest : length d ≡ digest_length h
  pub prefix : b ≡ header h d ++ drop (33 + length d) b
