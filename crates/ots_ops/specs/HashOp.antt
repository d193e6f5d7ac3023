-- The hashes of a file: their tags in the OpenTimestamps proof format (python-opentimestamps,
-- core/op.py), and the lengths of their digests (FIPS 180-4; RIPEMD-160 by its paper).
use Rattle.std.specs.Prelude.{ℕ}
use Rattle.ots_ops.specs.declared.hash_op.HashOp.{HashOp}
use Rattle.ots_ops.specs.declared.hash_op.HashOp.TheVariants.{Sha1, Ripemd160, Sha256}

-- The byte that stands for a hash.
abbrev pub tag : HashOp → ℕ
tag Sha1 = 0x02
tag Ripemd160 = 0x03
tag Sha256 = 0x08

-- How many bytes a digest has.
abbrev pub digest_length : HashOp → ℕ
digest_length Sha1 = 20
digest_length Ripemd160 = 20
digest_length Sha256 = 32
