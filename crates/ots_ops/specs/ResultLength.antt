-- How long the result of an operation is, and why there is none (python-opentimestamps,
-- opentimestamps/core/op.py: MAX_MSG_LENGTH, MAX_RESULT_LENGTH).
use Rattle.std.specs.Prelude.{ℕ, ◌+◌, ◌*◌, [], ◌∷◌, length, nat_lt, nat_le, ◌&&◌, if◌then◌else◌, Option, Some, None}
use Rattle.ots_base.specs.Table.{line, first_line}
use Rattle.ots_base.specs.declared.limits.TheConstants.{MAX_MESSAGE, MAX_HEXLIFIED}
use Rattle.ots_ops.specs.HashOp.{digest_length}
use Rattle.ots_ops.specs.declared.hash_op.HashOp.TheVariants as hash
use Rattle.ots_ops.specs.declared.op.Op.{Op}
use Rattle.ots_ops.specs.declared.op.Op.TheVariants.{Sha1, Ripemd160, Sha256, Append, Prepend, Reverse, Hexlify}
use Rattle.ots_ops.specs.declared.length.OpError.{OpError}
use Rattle.ots_ops.specs.declared.length.OpError.TheVariants.{TooLong, Empty}

-- The fewest bytes that an operation takes: nothing is reversed or hexlified where there is nothing.
abbrev pub fewest : Op → ℕ
fewest Reverse = 1
fewest Hexlify = 1
fewest o = 0

-- The most bytes that an operation takes: two digits a byte fill a message from MAX_HEXLIFIED bytes, 2048.
abbrev pub most : Op → ℕ
most Hexlify = MAX_HEXLIFIED
most o = MAX_MESSAGE

-- How many bytes an operation makes of n, before any limit is looked at.
abbrev pub made : Op → ℕ → ℕ
made Sha1 n = digest_length hash.Sha1
made Ripemd160 n = digest_length hash.Ripemd160
made Sha256 n = digest_length hash.Sha256
made (Append bytes) n = n + length bytes
made (Prepend bytes) n = length bytes + n
made Reverse n = n
made Hexlify n = 2 * n

-- The length of an operation's result on a message of n bytes, where there is a result.
abbrev pub len : Op → ℕ → Option ℕ
len o n = if nat_le (fewest o) n && nat_le n (most o) && nat_le (made o n) MAX_MESSAGE then Some (made o n) else None

-- Why an operation has no result on n bytes: the first line that fits, none where there is a result.
abbrev pub refusal : Op → ℕ → Option OpError
refusal o n = first_line (
    line (nat_lt MAX_MESSAGE n) (TooLong n MAX_MESSAGE)
    ∷ line (nat_lt (most o) n) (TooLong n (most o))
    ∷ line (nat_lt MAX_MESSAGE (made o n)) (TooLong (made o n) MAX_MESSAGE)
    ∷ line (nat_lt n (fewest o)) Empty
    ∷ [])
