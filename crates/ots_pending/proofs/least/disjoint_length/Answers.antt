use Rattle.std.proofs.Common.{◌∙◌, ◌∷◌, [], None, ap, get_or, arith}
use Rattle.ots_tree.specs.Kept.{beside}
use Rattle.ots_tree.specs.PendingWalk.{followed}
use Rattle.ots_tree.proofs.Numbered.{kept_length}
use Rattle.ots_pending.specs.Least.{disjoint_length}
use Rattle.ots_pending.specs.Listed.{pairs_in}
use Rattle.ots_pending.proofs.AtLeast.{counts_on}
use Rattle.ots_pending.proofs.least.disjoint_length.Goals as goal

pub bounds-depths-at : goal.bounds-depths-at
bounds-depths-at c = omega (arith, kept_length _ _ c.requires.tree)

pub loop-at-preserved : goal.loop-at-preserved
loop-at-preserved c =
    let pairs = pairs_in c.args.listing.now in
    let l = c.loop-at in
    let d = get_or c.args.depths.now l.at 0 in
    let x = c.index-tokens-at.result in
    let path = c.in_ok-tree.ensures.path in
    let follow = c.in_ok-follow.ensures in
    record {
      numbers = follow.numbers c.args.listing.now.messages path.numbers;
      low = λ given given_are long.
          counts_on pairs given c.args.trees.now c.args.tokens.now c.args.depths.now l.at l.total c.length_put.result c.saturating_add-total.result
          (disjoint_length pairs given None (c.args.digest ∷ []) (beside c.args.tokens.now c.args.depths.now)) x
          l.path.messages c.follow.new.path.messages l.taken c.around-node.result c.taken_after-taken.result c.is_none-is_free.result _ given_are long (kept_length _ _ c.requires.tree) c.loop-at-test.true c.index-tokens-at.is
          c.around-node.ensures c.is_none-is_free.ensures c.in_ok-tree.ensures.tree c.length_put.ensures c.saturating_add-total.ensures c.taken_after-taken.ensures (follow.messages ∙ ap (followed x d) path.same)
          (l.invariant.low given given_are long);
    }
