-- A file that is hashed, which may be too long for that.
use Rattle.std.specs.Prelude.{◌≡◌, ◌<◌, ◌≤◌, ℕ, List, length}
use Rattle.ots_base.specs.declared.limits.TheConstants.{MAX_TARGET_FILE}
use Rattle.ots_ops.specs.Hashed.{hashed}
use Rattle.ots_ops.specs.declared.hash_op.HashOp.{HashOp}
use Rattle.ots_detached.specs.declared.hashing.HashError.{HashError}
use Rattle.ots_detached.specs.declared.hashing.HashError.TheVariants as hashing
use Rattle.ots_inputs.specs.declared.error.InputError.{InputError}
use Rattle.ots_inputs.specs.declared.error.InputError.TheVariants.{ReadFault, Refused}
use Rattle.ots_client_text.specs.declared.status.Status.{Status}
use Rattle.ots_client_text.specs.declared.status.Status.TheVariants.{FileTooLong}

-- the digest of a target, which has at most 2^40 bytes
abbrev pub IsHashOf : HashOp → List ℕ → List ℕ → Type 0
IsHashOf hash bytes digest = (length bytes ≤ MAX_TARGET_FILE) × (digest ≡ hashed hash bytes)

abbrev pub RefusesTarget : List ℕ → Status → Type 0
RefusesTarget bytes s = (MAX_TARGET_FILE < length bytes) × (s ≡ FileTooLong)

-- ---- for the code

-- why a source gives no digest
abbrev pub refused_target : HashError → InputError Status
refused_target hashing.ReadFault = ReadFault
refused_target (hashing.FileTooLong limit) = Refused FileTooLong
