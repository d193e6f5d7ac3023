-- What the bytes of a file are for the commands, and how they are refused.
use Rattle.std.specs.Prelude.{◌≡◌, ◌<◌, ◌≤◌, ℕ, List, length}
use Rattle.ots_archive_text.specs.declared.status.ArchiveStatus.{ArchiveStatus}
use Rattle.ots_archive_text.specs.declared.status.ArchiveStatus.TheVariants.{BadProof, BadSheet, BadSums, FileTooLong, TooBig}
use Rattle.ots_base.specs.declared.limits.TheConstants.{MAX_PROOF_FILE, MAX_TARGET_FILE}
use Rattle.ots_detached.specs.FileFault.{HasFault}
use Rattle.ots_ops.specs.Hashed.{hashed}
use Rattle.ots_ops.specs.declared.hash_op.HashOp.TheVariants.{Sha256}
use Rattle.ots_reader.specs.declared.fault.Fault.{Fault}
use Rattle.ots_sheet.specs.Sheet.{IsBadSheet}
use Rattle.ots_sums.specs.Sums.{IsBadLine}

-- There are more bytes than a proof may have, whatever they hold; or no more, and they have this fault.
pub data RefusesProof (bytes : List ℕ) (s : ArchiveStatus) : Type 0 where
  too_big : MAX_PROOF_FILE < length bytes → s ≡ TooBig → RefusesProof bytes s
  bad_proof : (f : Fault) → length bytes ≤ MAX_PROOF_FILE → HasFault bytes f → s ≡ BadProof f → RefusesProof bytes s

-- the SHA-256 of a file, which has at most 2^40 bytes
abbrev pub IsHashOf : List ℕ → List ℕ → Type 0
IsHashOf bytes digest = (length bytes ≤ MAX_TARGET_FILE) × (digest ≡ hashed Sha256 bytes)

abbrev pub RefusesTarget : List ℕ → ArchiveStatus → Type 0
RefusesTarget bytes s = (MAX_TARGET_FILE < length bytes) × (s ≡ FileTooLong)

-- A line is the first that is not of its form.
abbrev pub RefusesSums : List ℕ → ArchiveStatus → Type 0
RefusesSums bytes s = (number : ℕ) × IsBadLine bytes number × (s ≡ BadSums number)

abbrev pub RefusesSheet : List ℕ → ArchiveStatus → Type 0
RefusesSheet bytes s = (number : ℕ) × IsBadSheet bytes number × (s ≡ BadSheet number)
