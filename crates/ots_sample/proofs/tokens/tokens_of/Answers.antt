use Rattle.std.proofs.Common.{arith}
use Rattle.ots_sample.proofs.Items.{more_items}
use Rattle.ots_sample.proofs.tokens.tokens_of.Goals as goal

pub loop-number-preserved : goal.loop-number-preserved
loop-number-preserved c = more_items c.args.paths c.loop-number.number _ c.loop-number.tokens.items _ (omega arith) c.in_ok-push_item.ensures c.loop-number.invariant
