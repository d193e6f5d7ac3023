use Rattle.std.proofs.Common.{◌∙◌, sym}
use Rattle.ots_ops.specs.OpRef.{op_of}
use Rattle.ots_reader.proofs.Places.{deep_op, no_result}
use Rattle.ots_reader.proofs.turn.node_after.Goals as goal

pub returns-then-not-has_room : goal.returns-then-not-has_room
returns-then-not-has_room c forked = deep_op c.args.at forked (op_of c.args.op) (sym c.has_room.ensures ∙ c.if-not-has_room.true)

pub returns-in-None : goal.returns-in-None
returns-in-None c forked =
    no_result c.args.at forked (op_of c.args.op) (record { least = c.requires.least; greatest = c.requires.greatest }) (sym c.has_room.ensures ∙ c.if-not-has_room.false)
    (sym c.after.ensures ∙ c.in-None.is)
