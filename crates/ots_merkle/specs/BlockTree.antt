-- The Merkle tree of a block's transactions (Bitcoin Core, src/consensus/merkle.cpp): level by level,
-- neighbours are hashed together, and an odd last hash with itself, until one hash is left.
use Rattle.std.specs.Prelude.{ℕ, zero, suc, ◌+◌, ◌-◌, ◌/◌, ◌%◌, List, [], ◌∷◌, length, nat_eq, nat_lt, if◌then◌else◌}
use Rattle.std.specs.Prelude.{slice_index_or}
use Rattle.ots_merkle.specs.Hashes.{block_node}
use Rattle.ots_merkle.specs.declared.branch.Side.{Side}
use Rattle.ots_merkle.specs.declared.branch.Side.TheVariants.{Left, Right}

-- The level above these hashes.
abbrev pub paired : List (List ℕ) → List (List ℕ)
paired [] = []
paired (last ∷ []) = block_node last last ∷ []
paired (left ∷ right ∷ hashes) = block_node left right ∷ paired hashes

-- The root over a level, at most n levels above it.
unfoldable pub block_root_within : ℕ → List (List ℕ) → List ℕ
block_root_within zero hashes = slice_index_or hashes 0 []
block_root_within (suc n) hashes =
    if nat_lt 1 (length hashes) then block_root_within n (paired hashes) else slice_index_or hashes 0 []

-- The root over a level; there are never more levels above it than it has hashes.
unfoldable pub block_root : List (List ℕ) → List ℕ
block_root hashes = block_root_within (length hashes) hashes

-- The neighbour with which the hash at a place is hashed, and where that one stands: the last hash of an
-- odd level has itself on its right.
abbrev pub neighbour : List (List ℕ) → ℕ → Side × List ℕ
neighbour hashes i =
    if nat_eq (i % 2) 0 then (Right, slice_index_or hashes (i + 1) (slice_index_or hashes i []))
    else (Left, slice_index_or hashes (i - 1) [])

-- The neighbours on the way from the hash at a place to the root, the lowest first.
unfoldable pub branch_within : ℕ → List (List ℕ) → ℕ → List (Side × List ℕ)
branch_within zero hashes i = []
branch_within (suc n) hashes i =
    if nat_lt 1 (length hashes) then neighbour hashes i ∷ branch_within n (paired hashes) (i / 2) else []

-- The branch of the hash at a place.
unfoldable pub block_branch : List (List ℕ) → ℕ → List (Side × List ℕ)
block_branch hashes i = branch_within (length hashes) hashes i

-- The hash of a node over a hash and its neighbour.
abbrev pub above_side : Side → List ℕ → List ℕ → List ℕ
above_side Left other hash = block_node other hash
above_side Right other hash = block_node hash other

-- The same for a step of a branch.
abbrev pub above : Side × List ℕ → List ℕ → List ℕ
above step hash = above_side step.0 step.1 hash

-- Where a branch leads from a hash.
abbrev pub climbed : List (Side × List ℕ) → List ℕ → List ℕ
climbed [] hash = hash
climbed (step ∷ steps) hash = climbed steps (above step hash)
