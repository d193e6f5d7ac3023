use Rattle.std.proofs.Common.{List, ◌∙◌, ap, arith}
use Rattle.std.proofs.lemmas.List.{take_all}
use Rattle.ots_ripemd.specs.Ripemd160.{Step, after}
use Rattle.ots_ripemd.specs.Rounds.{steps_of}
use Rattle.ots_ripemd.proofs.Lines.{after_none, length-steps_of}
use Rattle.ots_ripemd.proofs.block.sixteen_steps.Goals as goal

pub returns : goal.returns
returns c =
    let v = c.args.v in
    let r = c.args.round.now in
    let s1 = c.four_steps-first.ensures v (after_none c.args.x.now v) in
    let s2 = c.four_steps-second.ensures v s1 in
    let s3 = c.four_steps-third.ensures v s2 in
    let len = length-steps_of r (omega arith) in
    c.four_steps.ensures v s3 ∙ ap (λ (steps : List Step). after c.args.x.now steps v) (take_all 16 (steps_of r) (omega (arith, len)))
