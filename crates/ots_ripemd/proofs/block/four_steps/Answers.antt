use Rattle.std.proofs.Common.{ℕ, ◌+◌, ◌∙◌, ap, arith, take}
use Rattle.ots_ripemd.specs.Ripemd160.{after}
use Rattle.ots_ripemd.specs.Rounds.{steps_of}
use Rattle.ots_ripemd.proofs.Lines.{step_further}
use Rattle.ots_ripemd.proofs.block.four_steps.Goals as goal

pub returns : goal.returns
returns c = λ h held.
    let r = c.args.round.now in
    let j = c.args.j in
    let at = λ (n : ℕ). after c.args.x.now (take n (steps_of r)) h in
    let s1 = c.step-v.ensures ∙ step_further c.args.x.now h _ r j held (omega arith) (omega arith) in
    let s2 = c.step-v-2.ensures ∙ step_further c.args.x.now h _ r (j + 1) s1 (omega arith) (omega arith) in
    let s3 = c.step-v-3.ensures ∙ step_further c.args.x.now h _ r (j + 2) (s2 ∙ ap at (omega arith)) (omega arith) (omega arith) in
    c.step.ensures ∙ step_further c.args.x.now h _ r (j + 3) (s3 ∙ ap at (omega arith)) (omega arith) (omega arith) ∙ ap at (omega arith)
