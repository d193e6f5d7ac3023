use Rattle.ots_ops.specs.Apply.{apply}
use Rattle.ots_attest.specs.AttestationRef.{attestation_of}
use Rattle.ots_tree.specs.declared.token.Token.TheVariants as token
use Rattle.ots_tree.proofs.Walks.{leads}
use Rattle.ots_verifier.proofs.messages.Messages.follow.Goals as goal

pub returns-in-Attestation-clause-step : goal.returns-in-Attestation-clause-step
returns-in-Attestation-clause-step c =
    let a = attestation_of c.in-Attestation.field-0 in
    rw c.in-Attestation.is (leads apply (token.Attestation a) c.args.self.now.position c.close.new.self.position c.close.result (c.close.ensures.closes a))
