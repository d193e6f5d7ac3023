-- What reading a token answers.
use Rattle.std.specs.Prelude.{◌≡◌, ℕ, List, ◌++◌, length, drop}
use Rattle.ots_varint.specs.Varuint.{varbytes}
use Rattle.ots_ops.specs.Arg.{IsArg}
use Rattle.ots_ops.specs.declared.arg.Arg.{Arg}
use Rattle.ots_attest.specs.declared.attestation.Attestation.{Attestation}
use Rattle.ots_attest.specs.Attestation.{IsAttestation, kind, payload}
use Rattle.ots_tree.specs.declared.token.Token.{Token}
use Rattle.ots_tree.specs.Wire.{spell, IsToken}

-- the first `used` bytes spell the token
pub record IsTokenAt (bytes : List ℕ) (x : Token) (used : ℕ) : Type 0 where
  pub fits : IsToken x
  pub front : bytes ≡ spell x ++ drop used bytes
  pub len : used ≡ length (spell x)

-- the first `used` bytes are an argument after its length
pub record IsArgAt (bytes : List ℕ) (argument : Arg) (used : ℕ) : Type 0 where
  pub fits : IsArg argument
  pub front : bytes ≡ varbytes argument ++ drop used bytes
  pub len : used ≡ length (varbytes argument)

-- the first `used` bytes are the payload of an attestation of this kind after its length
pub record IsBodyAt (k bytes : List ℕ) (a : Attestation) (used : ℕ) : Type 0 where
  pub fits : IsAttestation a
  pub kind : kind a ≡ k
  pub front : bytes ≡ varbytes (payload a) ++ drop used bytes
  pub len : used ≡ length (varbytes (payload a))

-- the first `used` bytes are the kind of an attestation, and its payload after its length
pub record IsAttestationAt (bytes : List ℕ) (a : Attestation) (used : ℕ) : Type 0 where
  pub fits : IsAttestation a
  pub front : bytes ≡ (kind a ++ varbytes (payload a)) ++ drop used bytes
  pub len : used ≡ length (kind a ++ varbytes (payload a))
