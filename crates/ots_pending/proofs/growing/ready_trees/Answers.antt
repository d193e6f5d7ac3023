use Rattle.std.proofs.Common.{Some, Option, List, sym, ap, subst, ◌∙◌}
use Rattle.ots_tree.specs.declared.token.Token.{Token}
use Rattle.ots_pending.specs.Grown.{IsTree}
use Rattle.ots_pending.proofs.Lists.{get_of_or}
use Rattle.ots_pending.proofs.Putting.{ready_more, trees_more}
use Rattle.ots_pending.proofs.growing.ready_trees.Goals as goal

pub loop-i-preserved : goal.loop-i-preserved
loop-i-preserved c =
    let so_far = c.loop-i.invariant in
    let there = get_of_or c.args.trees.now c.loop-i.i c.index-trees-i.result c.loop-i-test.true ∙ ap (λ (z : Option (List Token)). Some z) (sym c.index-trees-i.is) in
    record {
      ready = ready_more c.args.pairs.now c.args.trees.now c.loop-i.ready.items c.loop-i.i c.uri.result.now _ c.in_ok-ready_tree.field-0 so_far.ready there c.uri.ensures
          c.in_ok-ready_tree.ensures.ready c.push.new.self.items c.in_ok-push.ensures.items;
      trees = trees_more c.args.trees.now c.loop-i.i c.index-trees-i.result c.loop-i-test.true so_far.trees (subst IsTree c.index-trees-i.is c.in_ok-ready_tree.ensures.tree);
    }
