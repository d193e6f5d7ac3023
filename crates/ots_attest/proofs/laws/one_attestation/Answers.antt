use Rattle.std.proofs.Common.{◌++◌, refl}
use Rattle.ots_varint.specs.Varuint.{varbytes}
use Rattle.ots_attest.specs.Attestation.{kind, payload}
use Rattle.ots_attest.proofs.OneAttestation.{spell-apart}
use Rattle.ots_attest.proofs.laws.one_attestation.Goals as goal

pub returns : goal.returns
returns c = record { apart = spell-apart; tagged = λ a. (kind a ++ varbytes (payload a), refl) }
