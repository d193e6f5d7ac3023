use Rattle.ots_archive_taken.proofs.MadeProofs.{draft_made, draft_too_big}
use Rattle.ots_archive_taken.proofs.making.proof_of_draft.Goals as goal

pub returns-in-Some : goal.returns-in-Some
returns-in-Some c = draft_made c.args.proof.now c.args.ops.now c.args.trees.now _ c.in_ok-made.field-0 c.fitting.result c.in-Some.made c.in_ok-made.ensures c.in-Some.is c.fitting.ensures

pub returns-in-None : goal.returns-in-None
returns-in-None c = draft_too_big c.args.proof.now c.args.ops.now c.args.trees.now c.in_ok-made.field-0 c.in_ok-made.ensures c.in-None.is
