-- The token whose parts stand elsewhere.
use Rattle.ots_ops.specs.OpRef.{op_of}
use Rattle.ots_attest.specs.AttestationRef.{attestation_of}
use Rattle.ots_tree.specs.declared.token.Token.{Token}
use Rattle.ots_tree.specs.declared.token.Token.TheVariants as owned
use Rattle.ots_tree.specs.declared.token_ref.TokenRef.{TokenRef}
use Rattle.ots_tree.specs.declared.token_ref.TokenRef.TheVariants.{Fork, Op, Attestation}

-- which token it is
abbrev pub token_of : TokenRef → Token
token_of Fork = owned.Fork
token_of (Op op) = owned.Op (op_of op)
token_of (Attestation attestation) = owned.Attestation (attestation_of attestation)
