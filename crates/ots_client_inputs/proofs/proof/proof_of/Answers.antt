use Rattle.ots_client_inputs.proofs.Reading.{fault_refused}
use Rattle.ots_client_inputs.proofs.proof.proof_of.Goals as goal

pub returns-in-Err-BadProof : goal.returns-in-Err-BadProof
returns-in-Err-BadProof c =
    fault_refused c.args.read c.in-Ok.bytes c.deref.result.now c.in-Err-BadProof.field-0 c.in-Err-BadProof.fault c.in-Ok.is c.deref.ensures.value c.in-Err-BadProof.field-0-is c.in-Err-BadProof.ensures.err
