-- The operations of an OpenTimestamps proof: their tags, spellings and order
-- (python-opentimestamps, opentimestamps/core/op.py).
use Rattle.std.specs.Prelude.{ℕ, List, [], ◌∷◌}
use Rattle.std.specs.declared.cmp.Ordering.{Ordering}
use Rattle.std.specs.Ordering.{nat_cmp, ordering_then}
use Rattle.std.specs.Cmp.Lexicographic.{slice_cmp}
use Rattle.ots_varint.specs.Varuint.{varbytes}
use Rattle.ots_ops.specs.HashOp as hash_op
use Rattle.ots_ops.specs.declared.hash_op.HashOp.TheVariants as hash
use Rattle.ots_ops.specs.declared.op.Op.{Op}
use Rattle.ots_ops.specs.declared.op.Op.TheVariants.{Sha1, Ripemd160, Sha256, Append, Prepend, Reverse, Hexlify}
use Rattle.ots_ops.specs.Arg.{IsArg}

-- An operation is within its limits: an argument is 1 to 4096 bytes.
abbrev pub IsOp : Op → Type 0
IsOp (Append bytes) = IsArg bytes
IsOp (Prepend bytes) = IsArg bytes
IsOp o = Unit {0}

-- The byte that stands for an operation. A hash has the tag that it has before a file's digest.
abbrev pub tag : Op → ℕ
tag Sha1 = hash_op.tag hash.Sha1
tag Ripemd160 = hash_op.tag hash.Ripemd160
tag Sha256 = hash_op.tag hash.Sha256
tag (Append bytes) = 0xf0
tag (Prepend bytes) = 0xf1
tag Reverse = 0xf2
tag Hexlify = 0xf3

-- What follows the tag: the argument after its length, where there is an argument.
abbrev pub after_tag : Op → List ℕ
after_tag (Append bytes) = varbytes bytes
after_tag (Prepend bytes) = varbytes bytes
after_tag o = []

-- How an operation is spelled.
abbrev pub spell : Op → List ℕ
spell o = tag o ∷ after_tag o

-- The bytes of the argument, none where there is no argument.
abbrev pub argument : Op → List ℕ
argument (Append bytes) = bytes
argument (Prepend bytes) = bytes
argument o = []

-- Operations compare by their tags, and those of one tag by the bytes of their arguments, where the
-- first difference decides and a proper prefix is less.
abbrev pub operation_cmp : Op → Op → Ordering
operation_cmp o p = ordering_then (nat_cmp (tag o) (tag p)) (slice_cmp nat_cmp (argument o) (argument p))

-- So they compare as these lists of bytes do.
abbrev pub key : Op → List ℕ
key o = tag o ∷ argument o
