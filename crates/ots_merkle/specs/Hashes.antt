-- The hashes that the nodes of the two trees are: SHA-256 (FIPS 180-4) of two hashes side by side,
-- once in a calendar's tree (python-opentimestamps, core/timestamp.py, cat_sha256) and
-- twice in a block's (Bitcoin Core, src/hash.h, CHash256).
use Rattle.std.specs.Prelude.{◌≡◌, ℕ, ◌++◌, List, length}
use Rattle.std.specs.List.{AllByRecursion}
use Rattle.sha2.specs.Sha256.{sha256}

-- The hash of a node of a calendar's tree over those of its two children.
abbrev pub node : List ℕ → List ℕ → List ℕ
node left right = sha256 (left ++ right)

-- The hash of a node of a block's tree over those of its two children.
abbrev pub block_node : List ℕ → List ℕ → List ℕ
block_node left right = sha256 (sha256 (left ++ right))

-- Each of these is as long as a hash, 32 bytes.
abbrev pub AreHashes : List (List ℕ) → Type 0
AreHashes hashes = AllByRecursion (λ hash. length hash ≡ 32) hashes
