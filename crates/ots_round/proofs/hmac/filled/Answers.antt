use Rattle.ots_round.proofs.Blocks.{filled_block}
use Rattle.ots_round.proofs.hmac.filled.Goals as goal

pub returns : goal.returns
returns c = filled_block _ c.args.key.now c.copy_from_slice.ensures.after
