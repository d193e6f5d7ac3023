use Rattle.std.proofs.Common.{◌-◌, ◌/◌, arith}
use Rattle.ots_chain.proofs.Numbers.{small_power}
use Rattle.ots_chain.proofs.targets.scaled.Goals as goal

pub pow-requires : goal.pow-requires
pow-requires c = (small_power (3 - c.args.bits / 16777216) (omega arith)).1

pub nonzero_div-result : goal.nonzero_div-result
nonzero_div-result c = rw c.pow.ensures ((small_power (3 - c.args.bits / 16777216) (omega arith)).0)
