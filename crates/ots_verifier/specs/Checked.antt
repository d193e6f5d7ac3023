-- What is found of the bytes of a proof file.
use Rattle.std.specs.Prelude.{◌≡◌, ◌≤◌, ◌<◌, ℕ, List, length, Option, Result, Ok, Err}
use Rattle.ots_base.specs.declared.limits.TheConstants.{MAX_PROOF_FILE}
use Rattle.ots_tree.specs.declared.detached.Detached.{Detached}
use Rattle.ots_reader.specs.declared.fault.Fault.{Fault}
use Rattle.ots_detached.specs.File.{IsFileOf}
use Rattle.ots_detached.specs.FileFault.{HasFault}
use Rattle.ots_headers.specs.HeaderTable.{Table}
use Rattle.ots_verdicts.specs.Confirmed.{Confirmed}
use Rattle.ots_verifier.specs.declared.checked.Checked.{Checked}
use Rattle.ots_verifier.specs.declared.checked.CheckError.{CheckError}
use Rattle.ots_verifier.specs.declared.checked.CheckError.TheVariants.{TooBig, BadProof}

-- what a proof is of, and what it confirms by these headers
pub record IsCheckOf (proof : Detached) (bitcoin : Table) (litecoin : Option Table) (c : Checked) : Type 0 where
  pub hash : c.hash ≡ proof.hash
  pub digest : c.digest ≡ proof.digest
  pub confirmed : Confirmed proof bitcoin litecoin c.best

-- The bytes are the file of a proof, and that is what it is found to be; or they are too many, whatever they are; or
-- they have this fault.
abbrev pub Checks : Table → Option Table → List ℕ → Result Checked CheckError → Type 0
Checks bitcoin litecoin bytes (Ok c) = (proof : Detached) × IsFileOf bytes proof × IsCheckOf proof bitcoin litecoin c
Checks bitcoin litecoin bytes (Err TooBig) = MAX_PROOF_FILE < length bytes
Checks bitcoin litecoin bytes (Err (BadProof f)) = (length bytes ≤ MAX_PROOF_FILE) × HasFault bytes f

-- The same the other way: which answer each bytes come to.
pub record IsExactCheck (bitcoin : Table) (litecoin : Option Table) (bytes : List ℕ)
    (answer : Result Checked CheckError) : Type 0 where
  pub accepts : (proof : Detached) → IsFileOf bytes proof → (c : Checked) × (answer ≡ Ok c)
      × IsCheckOf proof bitcoin litecoin c
  pub refuses : (f : Fault) → length bytes ≤ MAX_PROOF_FILE → HasFault bytes f → answer ≡ Err (BadProof f)
  pub too_big : MAX_PROOF_FILE < length bytes → answer ≡ Err TooBig

-- a verifier: by which headers, the bytes so far, and how many bytes of memory are taken
pub record Pieces : Type 0 where
  pub bitcoin : Table
  pub litecoin : Option Table
  pub bytes : List ℕ
  pub reserved : ℕ
