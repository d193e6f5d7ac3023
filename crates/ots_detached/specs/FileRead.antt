-- What reading a proof file answers.
use Rattle.std.specs.Prelude.{◌+◌, ◌<◌, ◌≤◌, ℕ, List, length, Option, Result, Ok, Err}
use Rattle.std.specs.Io.KnownBytes.{IsAtEnd}
use Rattle.ots_base.specs.declared.limits.TheConstants.{MAX_PROOF_FILE}
use Rattle.ots_outside.specs.Streams.{Gives}
use Rattle.ots_tree.specs.declared.detached.Detached.{Detached}
use Rattle.ots_detached.specs.declared.reading.FileError.{FileError}
use Rattle.ots_detached.specs.declared.reading.FileError.TheVariants.{ReadFault, TooBig, BadProof, OutOfMemory}
use Rattle.ots_detached.specs.File.{IsFileOf}
use Rattle.ots_reader.specs.declared.fault.ReadError.{ReadError}
use Rattle.ots_reader.specs.declared.fault.ReadError.TheVariants as error
use Rattle.ots_detached.specs.FileFault.{HasFault, moved}

-- Why bytes are no proof file: they are too many, whatever they are, or they have this fault.
abbrev pub IsFileError : List ℕ → FileError → Type 0
IsFileError b TooBig = MAX_PROOF_FILE < length b
IsFileError b (BadProof f) = (length b ≤ MAX_PROOF_FILE) × HasFault b f
IsFileError b ReadFault = ⊥
IsFileError b OutOfMemory = Unit {0}

-- The same of the bytes that came from a source, and whether they are its whole input.
abbrev pub Tells : List ℕ → Type 0 → Result Detached FileError → Type 0
Tells came whole (Ok p) = whole × IsFileOf came p
Tells came whole (Err TooBig) = MAX_PROOF_FILE < length came
Tells came whole (Err (BadProof f)) = whole × (length came ≤ MAX_PROOF_FILE) × HasFault came f
Tells came whole (Err ReadFault) = Unit {0}
Tells came whole (Err OutOfMemory) = Unit {0}

pub record ReadsFile (old new : Option (List ℕ)) (result : Result Detached FileError) : Type 0 where
  -- what the reads gave
  pub came : List ℕ
  pub gave : Gives old new came
  pub at_most : length came ≤ MAX_PROOF_FILE + 1
  pub tells : Tells came (IsAtEnd new) result

-- the place that an error names
abbrev pub place_of : ReadError → ℕ
place_of (error.Fault f) = f.place
place_of error.OutOfMemory = 0

-- a refusal of the tree that stands at a place, as a refusal of the file
abbrev pub moved_error : ℕ → ReadError → FileError
moved_error n (error.Fault f) = BadProof (moved n f)
moved_error n error.OutOfMemory = OutOfMemory
