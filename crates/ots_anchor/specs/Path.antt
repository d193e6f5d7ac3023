-- The path from a commitment of a calendar to what a block's Merkle root is made of.
use Rattle.std.specs.Prelude.{◌≡◌, ℕ, List, [], ◌∷◌, ◌++◌, length, map}
use Rattle.std.specs.List.{AllByRecursion}
use Rattle.sha2.specs.Sha256.{sha256}
use Rattle.ots_headers.specs.DoubleSha256.{double_sha256}
use Rattle.ots_ops.specs.declared.op.Op.{Op}
use Rattle.ots_ops.specs.declared.op.Op.TheVariants.{Sha256, Append, Prepend}
use Rattle.ots_merkle.specs.CalendarTree.{root, path}
use Rattle.ots_merkle.specs.BlockTree.{climbed}
use Rattle.ots_merkle.specs.declared.branch.Side.{Side}
use Rattle.ots_merkle.specs.declared.branch.Side.TheVariants.{Left, Right}

-- the leaves of a calendar's tree
abbrev pub hashed : List (List ℕ) → List (List ℕ)
hashed commitments = map sha256 commitments

-- what stands before a message, and after it, where it isn't empty
abbrev pub before : List ℕ → List Op
before [] = []
before (b ∷ bytes) = Prepend (b ∷ bytes) ∷ []

abbrev pub after : List ℕ → List Op
after [] = []
after (b ∷ bytes) = Append (b ∷ bytes) ∷ []

-- a neighbour in a block's tree
abbrev pub beside : Side × List ℕ → Op
beside (Left, hash) = Prepend hash
beside (Right, hash) = Append hash

-- SHA-256 twice
abbrev pub twice : List Op
twice = Sha256 ∷ Sha256 ∷ []

abbrev pub climb : List (Side × List ℕ) → List Op
climb [] = []
climb (step ∷ steps) = beside step ∷ Sha256 ∷ Sha256 ∷ climb steps

-- From a commitment by its SHA-256 and a way to the root of the calendar's tree, with it into the transaction between
-- prefix and suffix, to the transaction's id, and up the block's tree.
unfoldable pub complete_way : List Op → List ℕ → List ℕ → List (Side × List ℕ) → List Op
complete_way way prefix suffix branch =
    Sha256 ∷ (way ++ (before prefix ++ (after suffix ++ (twice ++ climb branch))))

-- The way is the path of the commitment's leaf.
unfoldable pub complete_path : List (List ℕ) → ℕ → List ℕ → List ℕ → List (Side × List ℕ) → List Op
complete_path commitments i = complete_way (path (hashed commitments) i)

-- what it leads to: where the branch leads from the hash of the transaction
abbrev pub led_to : List (List ℕ) → List ℕ → List ℕ → List (Side × List ℕ) → List ℕ
led_to commitments prefix suffix branch = climbed branch (double_sha256 (prefix ++ root (hashed commitments) ++ suffix))

-- the hashes of a branch have 32 bytes each
abbrev pub AreSteps : List (Side × List ℕ) → Type 0
AreSteps branch = AllByRecursion (λ step. length step.1 ≡ 32) branch
