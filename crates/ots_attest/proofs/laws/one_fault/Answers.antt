use Rattle.ots_attest.proofs.OneAttestation.{same}
use Rattle.ots_attest.proofs.Payloads.{payload_ok}
use Rattle.ots_attest.proofs.PayloadOrFault.{payload_or_fault}
use Rattle.ots_attest.proofs.laws.one_fault.Goals as goal

pub returns : goal.returns
returns c = record { one = same; sound = payload_ok; some = payload_or_fault }
