use Rattle.std.proofs.Common.{sym}
use Rattle.ots_archive_steps.specs.Proofs.{DraftOrProof}
use Rattle.ots_archive_steps.proofs.proofs.draft_or_proof.Goals as goal

pub returns-in-NoFile : goal.returns-in-NoFile
returns-in-NoFile g c = DraftOrProof.proof _ (rw (sym c.in-NoFile.is) c.in-Err.ensures) c.look_ending-in-NoFile.ensures

pub returns-in_default : goal.returns-in_default
returns-in_default g c = DraftOrProof.draft c.in-Err.ensures (λ same. c.in_default.not-NoFile cc)
