-- The operation whose argument stands elsewhere.
use Rattle.ots_ops.specs.declared.op.Op.{Op}
use Rattle.ots_ops.specs.declared.op.Op.TheVariants as op
use Rattle.ots_ops.specs.declared.op_ref.OpRef.{OpRef}
use Rattle.ots_ops.specs.declared.op_ref.OpRef.TheVariants.{Sha1, Ripemd160, Sha256, Append, Prepend, Reverse, Hexlify}

-- which operation it is
abbrev pub op_of : OpRef → Op
op_of Sha1 = op.Sha1
op_of Ripemd160 = op.Ripemd160
op_of Sha256 = op.Sha256
op_of (Append argument) = op.Append argument.bytes.now
op_of (Prepend argument) = op.Prepend argument.bytes.now
op_of Reverse = op.Reverse
op_of Hexlify = op.Hexlify
