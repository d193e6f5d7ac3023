use Rattle.ots_tree.specs.Walk.{open_at}
use Rattle.ots_tree.proofs.DepthWalk.{none_built}
use Rattle.ots_tree.proofs.builder.TreeBuilder.new.Goals as goal

pub invariant_of-result : goal.invariant_of-result
invariant_of-result c =
    none_built c.new.result.items c.new-2.result.items (open_at c.begin.result) c.new.ensures.items c.new-2.ensures.items c.begin.ensures
