use Rattle.ots_printer.proofs.Pieces.{puts_as, puts_nothing, puts_then}
use Rattle.ots_calendar_batch.proofs.TreeLines.{next_tree, no_trees}
use Rattle.ots_calendar_batch.proofs.trees.put_lines.Goals as goal

pub loop-tree-init : goal.loop-tree-init
loop-tree-init g c = puts_as (no_trees c.args.trees.now.index) (puts_nothing g.met.K.Sink.same_refl _)

pub loop-tree-preserved : goal.loop-tree-preserved
loop-tree-preserved g c =
    puts_as (next_tree c.args.trees.now.index c.args.trees.now.trees.items c.deref-tree-items.result.now c.loop-tree.tree-index c.tree-item.result c.deref-tree-items.ensures.value c.loop-tree-test.true c.tree-item.is)
    (puts_then c.loop-tree.invariant c.put_tree.ensures g.met.K.Sink.same_trans)
