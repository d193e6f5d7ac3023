use Rattle.ots_asking.specs.declared.outcome.Outcome.TheVariants.{Tree}
use Rattle.ots_archive_taken.proofs.given.whole_tree.Goals as goal

pub returns-in_default : goal.returns-in_default
returns-in_default c = λ tree is.
    c.in_default.not-Tree tree
    (c.one_outcome_of_body.ensures c.args.shape.length c.args.shape.depth c.args.body.now c.in_ok-tree.field-0 (Tree tree) c.requires c.in_ok-tree.ensures.outcome is)
