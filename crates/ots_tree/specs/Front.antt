-- The nodes that are open after some tokens: a walk that carries the length of a node's message and
-- the operations before it.
use Rattle.std.specs.Prelude.{ℕ, ◌+◌, List, Bool, nat_lt, Option, None, option_map, if◌then◌else◌}
use Rattle.ots_base.specs.declared.limits.TheConstants.{MAX_OPERATIONS}
use Rattle.ots_ops.specs.declared.op.Op.{Op}
use Rattle.ots_ops.specs.ResultLength.{len}
use Rattle.ots_tree.specs.declared.shape.Shape.{Shape}
use Rattle.ots_tree.specs.declared.token.Token.{Token}
use Rattle.ots_tree.specs.Walk as walk

-- of each the length of its message and the operations before it; the last one first
abbrev pub Open : Type 0
Open = walk.Open Shape

-- an operation at this node leads to a node that is not too deep, where it has a result
abbrev pub shape_after : Op → Shape → Option Shape
shape_after o p = if nat_lt p.depth MAX_OPERATIONS then option_map (λ n. record { length = n; depth = p.depth + 1 })
    (len o p.length) else None

-- before the first token
abbrev pub start : ℕ → ℕ → Open
start n k = walk.begun (record { length = n; depth = k })

-- one more token, at the last open node
abbrev pub next_at : Shape → List Shape → Bool → Token → Option Open
next_at p ps forked x = walk.next_at shape_after p ps forked x

abbrev pub next_in : List Shape → Bool → Token → Option Open
next_in ps forked x = walk.next_in shape_after ps forked x

abbrev pub next : Token → Open → Option Open
next x s = walk.next shape_after x s

-- after these tokens, one at a time
abbrev pub opened : Open → List Token → Option Open
opened s xs = walk.opened shape_after s xs

-- all nodes are closed
abbrev pub IsClosed : Option Open → Type 0
IsClosed s = walk.IsClosed s
