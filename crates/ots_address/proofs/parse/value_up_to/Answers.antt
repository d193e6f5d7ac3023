use Rattle.std.proofs.Common.{◌∙◌, arith}
use Rattle.ots_address.proofs.AddressLemmas.{value_more}
use Rattle.ots_address.proofs.parse.value_up_to.Goals as goal

pub loop-digit-preserved : goal.loop-digit-preserved
loop-digit-preserved c = c.next_value-value.ensures ∙ value_more c.args.digits.now c.loop-digit.digit-index c.loop-digit.value (omega arith) c.loop-digit.invariant
