-- The Merkle tree of a calendar's round (python-opentimestamps, core/timestamp.py, make_merkle_tree; its shape is
-- that of RFC 6962, section 2.1): one leaf is its own root, and more leaves are split after the
-- greatest power of two that is below their count.
use Rattle.std.specs.Prelude.{ℕ, zero, suc, ◌-◌, ◌^◌, List, [], ◌∷◌, ◌++◌, length, take, drop, nat_le, nat_lt}
use Rattle.std.specs.Prelude.{if◌then◌else◌, slice_index_or, Option, Some, None}
use Rattle.ots_ops.specs.declared.op.Op.{Op}
use Rattle.ots_ops.specs.declared.op.Op.TheVariants.{Sha256, Append, Prepend}
use Rattle.ots_merkle.specs.Hashes.{node}

-- The root of at most 2 ^ h leaves. Leaves that are more than 2 ^ h and at most 2 ^ suc h are split after
-- the first 2 ^ h, which is the greatest power of two below their count.
unfoldable pub root_within : ℕ → List (List ℕ) → List ℕ
root_within zero leaves = slice_index_or leaves 0 []
root_within (suc h) leaves =
    if nat_le (length leaves) (2 ^ h) then root_within h leaves
    else node (root_within h (take (2 ^ h) leaves)) (root_within h (drop (2 ^ h) leaves))

-- The root of leaves; there are never more than 2 to the power of their count.
unfoldable pub root : List (List ℕ) → List ℕ
root leaves = root_within (length leaves) leaves

-- The root where there is a leaf.
abbrev pub root_if_any : List (List ℕ) → Option (List ℕ)
root_if_any [] = None
root_if_any (leaf ∷ leaves) = Some (root (leaf ∷ leaves))

-- The operations that lead from the leaf of an index to the root of at most 2 ^ h leaves, by the same
-- split: at each node the root of the other part is put after or before, and then comes SHA-256.
unfoldable pub path_within : ℕ → List (List ℕ) → ℕ → List Op
path_within zero leaves i = []
path_within (suc h) leaves i =
    if nat_le (length leaves) (2 ^ h) then path_within h leaves i
    else if nat_lt i (2 ^ h) then path_within h (take (2 ^ h) leaves) i ++ Append (root_within h (drop (2 ^ h) leaves))
    ∷ Sha256 ∷ []
    else path_within h (drop (2 ^ h) leaves) (i - 2 ^ h) ++ Prepend (root_within h (take (2 ^ h) leaves)) ∷ Sha256 ∷ []

-- The path of the leaf of an index.
unfoldable pub path : List (List ℕ) → ℕ → List Op
path leaves i = path_within (length leaves) leaves i
