use Rattle.ots_calendar_batch.proofs.trees.print_trees.Goals as goal

pub returns-clause-printed : goal.returns-clause-printed
returns-clause-printed g c = rw c.print_last.ensures.printed.1 at c.print_last.ensures.printed.2
