-- What a status says of the proof files that a command reads. One that comes after them says that the bytes under each
-- spell a sound proof; BadProof says that the first that spell none have this fault; TooBig that one is too long and
-- those before it are proofs, or that all are. Which status comes is said by `exact`.
use Rattle.std.specs.Prelude.{◌<◌, ◌≤◌, ◌⊎◌, ℕ, List, [], ◌∷◌, length, Some}
use Rattle.std.specs.List.{AllByRecursion}
use Rattle.ots_base.specs.declared.limits.TheConstants.{MAX_PROOF_FILE}
use Rattle.ots_outside.specs.Shelf.{Names}
use Rattle.ots_tree.specs.declared.detached.Detached.{Detached}
use Rattle.ots_reader.specs.declared.fault.Fault.{Fault}
use Rattle.ots_detached.specs.File.{IsFileOf}
use Rattle.ots_detached.specs.FileFault.{HasFault}
use Rattle.ots_client_text.specs.declared.status.Status.{Status}
use Rattle.ots_client_text.specs.declared.status.Status.TheVariants.{Done, No, BadProof, Exists, TooBig, FileTooLong}
use Rattle.ots_client_text.specs.declared.status.Status.TheVariants.{Differs}
use Rattle.ots_client_words.specs.Words.{ClientCommand, info, canon, merge, prune, verify, stamp, upgrade, sample}
use Rattle.ots_client_words.specs.Words.{chain}
use Rattle.ots_inputs.specs.Under.{HasUnder}

-- the names of the proofs that a command reads, in order
abbrev pub proofs_read : ClientCommand → List (List ℕ)
proofs_read (info proof) = proof ∷ []
proofs_read (canon from to) = from ∷ []
proofs_read (merge first second to) = first ∷ second ∷ []
proofs_read (prune from to) = from ∷ []
proofs_read (verify v) = v.proof ∷ []
proofs_read (stamp s) = []
proofs_read (upgrade u) = u.proof ∷ []
proofs_read (sample n) = []
proofs_read (chain c) = []

-- The bytes under the name spell a sound proof.
abbrev pub IsProof : Names → List ℕ → Type 0
IsProof names name = HasUnder (Some names) name (λ bytes. (proof : Detached) × IsFileOf bytes proof)

-- Of these names all up to one are proofs, and the bytes under that one have this fault.
abbrev pub IsFirstFault : Names → List (List ℕ) → Fault → Type 0
IsFirstFault names [] f = ⊥
IsFirstFault names (name ∷ rest) f =
    HasUnder (Some names) name (λ bytes. (length bytes ≤ MAX_PROOF_FILE) × HasFault bytes f)
    ⊎ (IsProof names name × IsFirstFault names rest f)

-- Of these names all up to one are proofs, and under that one are too many bytes; or all are proofs, and it is the
-- result that is too long.
abbrev pub IsFirstTooLong : Names → List (List ℕ) → Type 0
IsFirstTooLong names [] = Unit {0}
IsFirstTooLong names (name ∷ rest) =
    HasUnder (Some names) name (λ bytes. MAX_PROOF_FILE < length bytes)
    ⊎ (IsProof names name × IsFirstTooLong names rest)

-- All were taken, or the first that is none was refused, or nothing is said.
abbrev pub TakesProofs : Names → List (List ℕ) → Status → Type 0
TakesProofs names proofs Done = AllByRecursion (IsProof names) proofs
TakesProofs names proofs No = AllByRecursion (IsProof names) proofs
TakesProofs names proofs Exists = AllByRecursion (IsProof names) proofs
TakesProofs names proofs FileTooLong = AllByRecursion (IsProof names) proofs
TakesProofs names proofs (Differs first_hash first_digest second_hash second_digest) = AllByRecursion (IsProof names)
    proofs
TakesProofs names proofs (BadProof f) = IsFirstFault names proofs f
TakesProofs names proofs TooBig = IsFirstTooLong names proofs
TakesProofs names proofs other = Unit {0}
