use Rattle.ots_archive_taken.proofs.GivenTrees.{one_each, sound_trees}
use Rattle.ots_archive_taken.proofs.Told.{proof_told_big, proof_upgraded}
use Rattle.ots_sheet.specs.declared.request.Kind.TheVariants.{Get}
use Rattle.ots_archive_taken.proofs.taking.taken_of_proof.Goals as goal

pub completed_proof-requires-clause-one_each : goal.completed_proof-requires-clause-one_each
completed_proof-requires-clause-one_each c = rw c.deref.ensures.value (one_each c.args.replies.now Get c.in_ok-pairs.pairs c.in_ok-trees.trees.items c.in_ok-trees.ensures)

pub completed_proof-requires-clause-sound : goal.completed_proof-requires-clause-sound
completed_proof-requires-clause-sound c = rw c.deref.ensures.value (sound_trees c.args.replies.now Get c.in_ok-pairs.pairs c.in_ok-trees.trees.items c.in_ok-trees.ensures)

pub returns-in-Some : goal.returns-in-Some
returns-in-Some c =
    proof_upgraded c.args.replies.now c.args.proof.now c.in_ok-pairs.pairs c.in_ok-trees.trees.items c.deref.result.now c.in_ok-made.field-0 c.in-Some.made c.upgraded.result
    c.in_ok-pairs.ensures.pairs c.in_ok-trees.ensures c.deref.ensures.value c.in_ok-made.ensures c.in-Some.is c.upgraded.ensures

pub returns : goal.returns
returns c =
    proof_told_big c.args.replies.now c.args.proof.now c.in_ok-pairs.pairs c.in_ok-trees.trees.items c.deref.result.now c.in_ok-made.field-0
    c.in_ok-pairs.ensures.pairs c.in_ok-trees.ensures c.deref.ensures.value c.in_ok-made.ensures c.in-None.is
