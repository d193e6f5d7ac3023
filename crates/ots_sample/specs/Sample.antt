-- The proof of a sample, the header table by which it is verified, and what is told of it. The rule is
-- this project's own.
use Rattle.std.specs.Prelude.{◌≡◌, ℕ, zero, suc, ◌/◌, List, [], ◌∷◌, ◌++◌, length, map, replicate, Some, None}
use Rattle.std.specs.Int.{w32, w64, to_be_bytes}
use Rattle.sha2.specs.Sha256.{sha256}
use Rattle.ots_ops.specs.declared.hash_op.HashOp.TheVariants as hash
use Rattle.ots_ops.specs.declared.op.Op.TheVariants.{Append, Sha256}
use Rattle.ots_ops.specs.Value.{value}
use Rattle.ots_attest.specs.declared.attestation.Attestation.TheVariants.{Bitcoin}
use Rattle.ots_tree.specs.declared.detached.Detached.{Detached}
use Rattle.ots_tree.specs.Wire.{Path}
use Rattle.ots_detached.specs.File.{file_of}
use Rattle.ots_canon.specs.Canonical.{IsCanonTree}
use Rattle.ots_headers.specs.HeaderTable.{Table}
use Rattle.ots_headers.specs.TableRead.{IsTableOf}
use Rattle.ots_verdicts.specs.Confirmed.{IsVerdict}
use Rattle.ots_sample.specs.declared.outcome.Sample.{Sample}

-- SHA-256 of the number of paths as 8 big-endian bytes
abbrev pub digest_of : ℕ → List ℕ
digest_of n = sha256 (to_be_bytes w64 n)

-- path i: append i as 4 big-endian bytes, then SHA-256, then Bitcoin block i
abbrev pub path : ℕ → Path
path i = record { ops = Append (to_be_bytes w32 i) ∷ Sha256 ∷ []; end = Bitcoin i }

-- from n - 1 down to 0
abbrev pub numbers_below : ℕ → List ℕ
numbers_below zero = []
numbers_below (suc i) = i ∷ numbers_below i

abbrev pub sample_paths : ℕ → List Path
sample_paths n = map path (numbers_below n)

-- the proof in canonical form
pub record IsSampleProof (n : ℕ) (p : Detached) : Type 0 where
  pub hash : p.hash ≡ hash.Sha256
  pub digest : p.digest ≡ digest_of n
  pub tree : IsCanonTree (sample_paths n) p.tree

-- A header: all bytes are 0 but for the Merkle root, and for the time of Bitcoin's first block.
abbrev pub header_of : List ℕ → List ℕ
header_of root = replicate 36 0 ++ root ++ (0x29 ∷ 0xab ∷ 0x5f ∷ 0x49 ∷ []) ++ replicate 8 0

-- One header, at half the number of paths, rounded down. Its Merkle root is the value of that path.
pub record IsSampleTable (n : ℕ) (t : Table) : Type 0 where
  pub root : List ℕ
  pub is_value : value (path (n / 2)).ops (digest_of n) ≡ Some root
  pub is_table : IsTableOf (n / 2) (header_of root) t

-- what is told: of the canonical proof the length and the SHA-256 of its file, and the verdict on its
-- own digest
pub record IsSample (n : ℕ) (s : Sample) : Type 0 where
  pub proof : Detached
  pub is_proof : IsSampleProof n proof
  pub table : Table
  pub is_table : IsSampleTable n table
  pub paths : s.paths ≡ n
  pub size : s.length ≡ length (file_of proof)
  pub digest : s.digest ≡ sha256 (file_of proof)
  pub verdict : IsVerdict proof proof.digest table None s.verdict
