use Rattle.ots_ripemd.specs.Ripemd160.{left}
use Rattle.ots_ripemd.proofs.Lines.{five_rounds}
use Rattle.ots_ripemd.proofs.block.left_line.Goals as goal

pub returns : goal.returns
unfolding left
returns c =
    five_rounds _ _ _ _ _ _ _ _ _ _ _ _ c.sixteen_steps-first.ensures c.sixteen_steps-second.ensures c.sixteen_steps-third.ensures c.sixteen_steps-fourth.ensures c.sixteen_steps.ensures
