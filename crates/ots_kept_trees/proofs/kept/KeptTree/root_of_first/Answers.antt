use Rattle.std.proofs.Common.{◌∙◌, ap, take}
use Rattle.ots_merkle.specs.CalendarTree.{root}
use Rattle.ots_kept_trees.proofs.Leaves.{cut_leaves, first_leaves, root_found}
use Rattle.ots_kept_trees.proofs.kept.KeptTree.root_of_first.Goals as goal

pub root_of_first-requires-clause-cut : goal.root_of_first-requires-clause-cut
root_of_first-requires-clause-cut c = c.deref.ensures.value ∙ c.in_ok-cut.ensures ∙ cut_leaves c.args.self.now.tree.leaves c.args.count c.requires.enough

pub returns : goal.returns
returns c =
    root_found c.root_of_first.result c.unwrap.result (take c.args.count c.args.self.now.tree.leaves) c.root_of_first.ensures c.unwrap.ensures
    ∙ ap root (first_leaves c.args.commitments.now c.args.self.now.first c.args.count c.args.self.now.tree.leaves c.requires.kept.leaves c.requires.enough)
