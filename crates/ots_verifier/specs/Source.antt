-- What verifying a source's whole input answers.
use Rattle.std.specs.Prelude.{◌+◌, ◌<◌, ◌≤◌, ℕ, List, length, Option, Result, Ok, Err}
use Rattle.std.specs.Io.KnownBytes.{IsAtEnd}
use Rattle.ots_base.specs.declared.limits.TheConstants.{MAX_PROOF_FILE}
use Rattle.ots_outside.specs.Streams.{Gives}
use Rattle.ots_tree.specs.declared.detached.Detached.{Detached}
use Rattle.ots_detached.specs.File.{IsFileOf}
use Rattle.ots_detached.specs.FileFault.{HasFault}
use Rattle.ots_headers.specs.HeaderTable.{Table}
use Rattle.ots_verifier.specs.declared.checked.Checked.{Checked}
use Rattle.ots_verifier.specs.declared.checked.CheckError.{CheckError}
use Rattle.ots_verifier.specs.declared.checked.CheckError.TheVariants as check
use Rattle.ots_verifier.specs.declared.source.SourceError.{SourceError}
use Rattle.ots_verifier.specs.declared.source.SourceError.TheVariants.{ReadFault, TooBig, BadProof}
use Rattle.ots_verifier.specs.Checked.{IsCheckOf}

abbrev pub answered : Result Checked CheckError → Result Checked SourceError
answered (Ok c) = Ok c
answered (Err check.TooBig) = Err TooBig
answered (Err (check.BadProof f)) = Err (BadProof f)

-- The bytes are the file of a proof, and that is what it is found to be.
abbrev pub IsChecked : Table → Option Table → List ℕ → Checked → Type 0
IsChecked bitcoin litecoin bytes c = (proof : Detached) × IsFileOf bytes proof × IsCheckOf proof bitcoin litecoin c

-- What an answer says of the bytes that came, and whether they are the whole input.
abbrev pub Tells : Table → Option Table → List ℕ → Type 0 → Result Checked SourceError → Type 0
Tells bitcoin litecoin came whole (Ok c) = whole × IsChecked bitcoin litecoin came c
Tells bitcoin litecoin came whole (Err TooBig) = MAX_PROOF_FILE < length came
Tells bitcoin litecoin came whole (Err (BadProof f)) = whole × (length came ≤ MAX_PROOF_FILE) × HasFault came f
Tells bitcoin litecoin came whole (Err ReadFault) = Unit {0}

pub record ChecksSource (bitcoin : Table) (litecoin : Option Table) (old new : Option (List ℕ))
    (result : Result Checked SourceError) : Type 0 where
  -- what the reads gave
  pub came : List ℕ
  pub gave : Gives old new came
  pub at_most : length came ≤ MAX_PROOF_FILE + 1
  pub tells : Tells bitcoin litecoin came (IsAtEnd new) result
