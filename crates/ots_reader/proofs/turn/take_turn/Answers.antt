use Rattle.std.proofs.Common.{refl, sym}
use Rattle.std.proofs.lemmas.Result.{err_from_is_err_and}
use Rattle.ots_ops.specs.OpRef.{op_of}
use Rattle.ots_attest.specs.AttestationRef.{attestation_of}
use Rattle.ots_tree.specs.Front.{shape_after}
use Rattle.ots_reader.proofs.turn.take_turn.Goals as goal

pub returns-in_err-to-in-Op-clause-moves : goal.returns-in_err-to-in-Op-clause-moves
returns-in_err-to-in-Op-clause-moves c =
    let p = err_from_is_err_and c.from_residual.result c.from_residual.ensures.1 in
    rw (p.1, p.2, c.in-Op.is) (rw c.last.ensures at c.in_err-to-in-Op.ensures c.args.walk.now.forked, refl)

pub returns-in-Attestation-clause-moves : goal.returns-in-Attestation-clause-moves
returns-in-Attestation-clause-moves c = rw c.in-Attestation.is (c.close.ensures.closed shape_after (attestation_of c.in-Attestation.field-0))

pub returns-in_ok-to-in-Op-clause-moves : goal.returns-in_ok-to-in-Op-clause-moves
returns-in_ok-to-in-Op-clause-moves c = rw c.in-Op.is (c.lead.ensures.led shape_after (op_of c.in-Op.op) (rw c.last.ensures at c.in_ok-to-in-Op.ensures))

pub returns-else-is_forked-clause-moves : goal.returns-else-is_forked-clause-moves
returns-else-is_forked-clause-moves c = rw c.in-Fork.is ((rw c.unwrap.ensures at c.fork.ensures.forked (sym c.if-is_forked.ensures)) shape_after)
