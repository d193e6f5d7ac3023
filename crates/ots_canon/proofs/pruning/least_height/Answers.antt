use Rattle.std.proofs.Common.{arith}
use Rattle.std.proofs.lemmas.List.{take_all}
use Rattle.ots_canon.proofs.Leading.{least_more}
use Rattle.ots_canon.proofs.pruning.least_height.Goals as goal

pub loop-at-preserved : goal.loop-at-preserved
loop-at-preserved c =
    let l = c.loop-at-test.true in
    let e = c.len-at-end.ensures in
    rw c.lower-least.ensures (least_more c.args.tokens.now c.loop-at.at c.loop-at.least c.height_at.result (omega arith) c.height_at.ensures c.loop-at.invariant)

pub returns : goal.returns
returns c =
    let l = c.loop-at-test.false in
    let e = c.len-at-end.ensures in
    rw (take_all c.loop-at.at c.args.tokens.now (omega arith)) at c.loop-at.invariant
