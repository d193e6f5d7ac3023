use Rattle.ots_archive_inputs.proofs.Meant.{proof_refused}
use Rattle.ots_archive_inputs.proofs.proof.ProofReaderReader.read.Goals as goal

pub returns-in-Err-clause-means : goal.returns-in-Err-clause-means
returns-in-Err-clause-means g c = rw c.refused_proof.ensures (proof_refused _ _ c.in-Err.error c.in-Err.ensures.input)
