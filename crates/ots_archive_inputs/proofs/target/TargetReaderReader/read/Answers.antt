use Rattle.ots_archive_inputs.proofs.Meant.{target_refused}
use Rattle.ots_archive_inputs.proofs.target.TargetReaderReader.read.Goals as goal

pub returns-in-Err-clause-means : goal.returns-in-Err-clause-means
returns-in-Err-clause-means g c = rw c.refused_target.ensures (target_refused _ _ c.in-Err.error c.in-Err.ensures.input)
