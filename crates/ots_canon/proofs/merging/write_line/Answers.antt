use Rattle.std.proofs.Common.{◌++◌, ◌∷◌, [], ◌∙◌}
use Rattle.ots_canon.proofs.Coming.{line_more}
use Rattle.ots_canon.proofs.merging.write_line.Goals as goal

pub loop-at-preserved : goal.loop-at-preserved
loop-at-preserved c =
    line_more c.args.tokens.now c.args.written.now.items c.args.from c.loop-at.at c.loop-at.auto.at c.at.ensures (c.in_ok-push.ensures.items ∙ (λ i. c.loop-at.invariant i ++ c.in_ok-copy.ensures i ∷ []))
