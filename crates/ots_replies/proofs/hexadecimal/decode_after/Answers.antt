use Rattle.ots_replies.proofs.Digits.{written}
use Rattle.ots_replies.proofs.hexadecimal.decode_after.Goals as goal

pub returns : goal.returns
returns c more are text long =
    written c.args.bytes.now c.args.digits.now c.decode_to_slice.new.out more c.args.start c.decode_to_slice.result c.requires are text long
    c.decode_to_slice.ensures.value
