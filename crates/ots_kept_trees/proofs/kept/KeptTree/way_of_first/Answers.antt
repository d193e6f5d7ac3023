use Rattle.std.proofs.Common.{◌∙◌, ◌%◌, ◌++◌, ap}
use Rattle.std.proofs.lemmas.Result.{IfOk-weaker}
use Rattle.ots_growing_tree.specs.declared.growing.TheConstants.{RUN}
use Rattle.ots_merkle.specs.CalendarTree.{path}
use Rattle.ots_kept_trees.proofs.Leaves.{first_leaves}
use Rattle.ots_kept_trees.proofs.kept.KeptTree.way_of_first.Goals as goal

pub returns : goal.returns
returns c =
    IfOk-weaker c.through.result _ _
    (λ way e. e ∙ ap (λ z. path z (c.args.i % RUN) ++ c.in_ok-above.above) c.run_at.ensures
    ∙ c.in_ok-above.ensures.path
    ∙ ap (λ z. path z c.args.i) (first_leaves c.args.commitments.now c.args.self.now.first c.args.count c.args.self.now.tree.leaves c.requires.kept.leaves c.requires.enough))
    c.through.ensures
