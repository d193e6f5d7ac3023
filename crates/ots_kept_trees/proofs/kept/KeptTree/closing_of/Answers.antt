use Rattle.std.proofs.Common.{◌*◌, ◌/◌, ◌∙◌, ap, arith, length, length-take, drop, take}
use Rattle.ots_growing_tree.specs.declared.growing.TheConstants.{RUN}
use Rattle.ots_merkle.specs.CalendarTree.{root_if_any}
use Rattle.ots_kept_trees.proofs.Leaves.{cut_leaves}
use Rattle.ots_kept_trees.proofs.kept.KeptTree.closing_of.Goals as goal

pub root_of-requires : goal.root_of-requires
root_of-requires c =
    omega (arith, ap length (c.deref.ensures.value ∙ c.in_ok-run_of-in_default.ensures), length-take RUN (drop (RUN * (c.args.count / RUN)) (take c.args.count c.args.self.now.tree.leaves)))

pub returns-in_ok-run_of-in_default : goal.returns-in_ok-run_of-in_default
returns-in_ok-run_of-in_default c =
    c.root_of.ensures ∙ ap root_if_any (c.deref.ensures.value ∙ c.in_ok-run_of-in_default.ensures ∙ cut_leaves c.args.self.now.tree.leaves c.args.count c.requires.enough)
