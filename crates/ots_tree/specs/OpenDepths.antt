-- A walk over the tokens of a tree that counts operations. It serves the function that walks; what it
-- counts is said by `listed`.
use Rattle.std.specs.Prelude.{ℕ, ◌+◌, ◌-◌, ◌^◌, min, Option}
use Rattle.ots_ops.specs.declared.op.Op.{Op}
use Rattle.ots_tree.specs.Walk.{always}

-- one more, and 2^32 - 1 at most
abbrev pub counted : Op → ℕ → ℕ
counted o d = min (d + 1) (2 ^ 32 - 1)

abbrev pub one_more : Op → ℕ → Option ℕ
one_more o d = always counted o d
