use Rattle.std.proofs.Common.{◌+◌, ◌-◌, ◌*◌, ◌/◌, arith}
use Rattle.ots_growing_tree.specs.declared.growing.TheConstants.{RUN}
use Rattle.ots_kept_trees.proofs.Leaves.{run_leaves}
use Rattle.ots_kept_trees.proofs.kept.KeptTree.run_at.Goals as goal

pub returns : goal.returns
returns c =
    let first = c.args.self.now.first in
    let begin = RUN * (c.args.i / RUN) in
    run_leaves c.args.commitments.now first c.args.count begin (first + c.min-end.result - (first + begin)) c.args.self.now.tree.leaves c.requires.kept.leaves c.requires.enough
    (omega arith) (omega (arith, c.min-end.ensures))
