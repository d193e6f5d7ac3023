-- A file that is a proof or none.
use Rattle.std.specs.Prelude.{◌≡◌, ◌<◌, ◌≤◌, ℕ, List, length}
use Rattle.ots_base.specs.declared.limits.TheConstants.{MAX_PROOF_FILE}
use Rattle.ots_reader.specs.declared.fault.Fault.{Fault}
use Rattle.ots_detached.specs.FileFault.{HasFault}
use Rattle.ots_verifier.specs.declared.source.SourceError.{SourceError}
use Rattle.ots_verifier.specs.declared.source.SourceError.TheVariants as source
use Rattle.ots_inputs.specs.declared.error.InputError.{InputError}
use Rattle.ots_inputs.specs.declared.error.InputError.TheVariants.{ReadFault, Refused}
use Rattle.ots_client_text.specs.declared.status.Status.{Status}
use Rattle.ots_client_text.specs.declared.status.Status.TheVariants.{BadProof, TooBig}

-- There are more bytes than a proof may have, whatever they hold; or no more, and they have this fault.
pub data RefusesProof (bytes : List ℕ) (s : Status) : Type 0 where
  too_big : MAX_PROOF_FILE < length bytes → s ≡ TooBig → RefusesProof bytes s
  bad_proof : (f : Fault) → length bytes ≤ MAX_PROOF_FILE → HasFault bytes f → s ≡ BadProof f → RefusesProof bytes s

-- ---- for the code

-- why a source that is verified gives nothing
abbrev pub refused_source : SourceError → InputError Status
refused_source source.ReadFault = ReadFault
refused_source source.TooBig = Refused TooBig
refused_source (source.BadProof f) = Refused (BadProof f)
