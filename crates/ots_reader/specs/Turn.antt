-- What a token does to the nodes that are open.
use Rattle.std.specs.Prelude.{◌≡◌, Bool, Some, Result, Ok, Err, if◌then◌else◌}
use Rattle.ots_ops.specs.declared.op.Op.{Op}
use Rattle.ots_tree.specs.declared.shape.Shape.{Shape}
use Rattle.ots_tree.specs.declared.token.Token.{Token}
use Rattle.ots_tree.specs.declared.token.Token.TheVariants as token
use Rattle.ots_tree.specs.Walk.{Position, open_at, none_open}
use Rattle.ots_tree.specs.Front.{shape_after, next_at}
use Rattle.ots_reader.specs.declared.fault.Reason.{Reason}
use Rattle.ots_reader.specs.TreeFault.{place_fault}

-- The node of an operation's result, or why the operation can't stand there, after a fork or not.
abbrev pub LeadsTo : Shape → Op → Result Shape Reason → Type 0
LeadsTo at o (Ok to) = shape_after o at ≡ Some to
LeadsTo at o (Err r) = (forked : Bool) → place_fault at forked (token.Op o) ≡ Some r

-- The walk after one more token and whether a node is still open, or why the token can't stand there, and the walk is
-- as it was.
abbrev pub Moves : Position Shape → Position Shape → Token → Result Bool Reason → Type 0
Moves old new x (Ok more) = next_at old.last old.others old.forked x ≡ Some (if more then open_at new else none_open)
Moves old new x (Err r) = (place_fault old.last old.forked x ≡ Some r) × (new ≡ old)
