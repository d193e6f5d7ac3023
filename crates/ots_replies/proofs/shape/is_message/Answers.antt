use Rattle.ots_replies.proofs.Shapes.{message_is, message_not}
use Rattle.ots_replies.proofs.shape.is_message.Goals as goal

pub returns-then-has_length : goal.returns-then-has_length
returns-then-has_length c = message_is c.args.kind c.args.digits.now c.is_hex.result (c.has_length.ensures.0 c.if-has_length.true) c.is_hex.ensures

pub returns-else-has_length : goal.returns-else-has_length
returns-else-has_length c = message_not c.args.kind c.args.digits.now c.has_length.result c.if-has_length.false c.has_length.ensures
