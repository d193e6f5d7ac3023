-- What an operation makes of a message (python-opentimestamps, opentimestamps/core/op.py).
use Rattle.std.specs.Prelude.{ℕ, List, ◌++◌, length, reverse, Option}
use Rattle.std.specs.Option.{option_map}
use Rattle.hex.specs.Hex.{encode_lower}
use Rattle.ots_ops.specs.Hashed.{hashed}
use Rattle.ots_ops.specs.ResultLength.{len}
use Rattle.ots_ops.specs.declared.hash_op.HashOp.TheVariants as hash
use Rattle.ots_ops.specs.declared.op.Op.{Op}
use Rattle.ots_ops.specs.declared.op.Op.TheVariants.{Sha1, Ripemd160, Sha256, Append, Prepend, Reverse, Hexlify}

-- before any limit is looked at
abbrev pub applied : Op → List ℕ → List ℕ
applied Sha1 message = hashed hash.Sha1 message
applied Ripemd160 message = hashed hash.Ripemd160 message
applied Sha256 message = hashed hash.Sha256 message
applied (Append argument) message = message ++ argument
applied (Prepend argument) message = argument ++ message
applied Reverse message = reverse message
applied Hexlify message = encode_lower message

-- It is defined exactly where the length of its result is.
abbrev pub apply : Op → List ℕ → Option (List ℕ)
apply o message = option_map (λ n. applied o message) (len o (length message))
