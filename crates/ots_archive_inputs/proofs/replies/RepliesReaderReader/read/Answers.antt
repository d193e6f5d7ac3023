use Rattle.ots_archive_inputs.proofs.Meant.{replies_refused}
use Rattle.ots_archive_inputs.proofs.replies.RepliesReaderReader.read.Goals as goal

pub returns-in-Err-clause-means : goal.returns-in-Err-clause-means
returns-in-Err-clause-means g c = rw c.refused_replies.ensures (replies_refused _ c.in-Err.error c.in-Err.ensures.replies)
