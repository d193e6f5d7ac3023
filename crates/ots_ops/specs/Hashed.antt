-- The digest of a message: SHA-1 and SHA-256 by FIPS 180-4, RIPEMD-160 by the paper of Dobbertin, Bosselaers and
-- Preneel.
use Rattle.std.specs.Prelude.{ℕ, List}
use Rattle.ots_ops.specs.declared.hash_op.HashOp.{HashOp}
use Rattle.ots_ops.specs.declared.hash_op.HashOp.TheVariants.{Sha1, Ripemd160, Sha256}
use Rattle.ots_ripemd.specs.Ripemd160.{ripemd160}
use Rattle.sha1.specs.Sha1.{sha1}
use Rattle.sha2.specs.Sha256.{sha256}

abbrev pub hashed : HashOp → List ℕ → List ℕ
hashed Sha1 message = sha1 message
hashed Ripemd160 message = ripemd160 message
hashed Sha256 message = sha256 message
