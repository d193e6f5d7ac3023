use Rattle.std.proofs.Common.{arith, sym, ◌∙◌}
use Rattle.std.proofs.lemmas.List.{take_all}
use Rattle.ots_tree.specs.Kept.{beside}
use Rattle.ots_tree.proofs.Numbered.{kept_length, beside_more, length-beside}
use Rattle.ots_tree.proofs.listing.copied_beside.Goals as goal

pub bounds-depths-at : goal.bounds-depths-at
bounds-depths-at c = omega (arith, kept_length _ _ c.requires)

pub loop-at-preserved : goal.loop-at-preserved
loop-at-preserved c =
    let more = beside_more c.args.tokens.now c.args.depths.now c.loop-at.at _ (kept_length _ _ c.requires) c.loop-at-test.true c.index-tokens-at.is in
    rw (c.in_ok-push.ensures.items, c.loop-at.invariant, c.in_ok-copy.ensures) (sym more)

pub returns : goal.returns
returns c =
    let same = kept_length _ _ c.requires in
    c.loop-at.invariant ∙ take_all c.loop-at.at (beside c.args.tokens.now c.args.depths.now) (omega (arith, length-beside c.args.tokens.now c.args.depths.now same))
