use Rattle.ots_ripemd.specs.Ripemd160.{right}
use Rattle.ots_ripemd.proofs.Lines.{five_rounds}
use Rattle.ots_ripemd.proofs.block.right_line.Goals as goal

pub returns : goal.returns
unfolding right
returns c =
    five_rounds _ _ _ _ _ _ _ _ _ _ _ _ c.sixteen_steps-first.ensures c.sixteen_steps-second.ensures c.sixteen_steps-third.ensures c.sixteen_steps-fourth.ensures c.sixteen_steps.ensures
