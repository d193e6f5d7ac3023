use Rattle.std.proofs.Common.{refl}
use Rattle.ots_archive_taken.proofs.MadeProofs.{proof_made, proof_too_big}
use Rattle.ots_archive_taken.proofs.making.completed_proof.Goals as goal

pub returns-in-Some : goal.returns-in-Some
returns-in-Some c =
    proof_made c.args.proof.now c.args.pairs.now c.args.trees.now _ c.in_ok-tree.field-0 c.fitting.result _ refl refl c.in_ok-tree.ensures c.in-Some.is c.fitting.ensures

pub returns-in-None : goal.returns-in-None
returns-in-None c = proof_too_big c.args.proof.now c.args.pairs.now c.args.trees.now c.in_ok-tree.field-0 c.limits_of_detached.ensures.digest c.in_ok-tree.ensures c.in-None.is
