use Rattle.ots_store.proofs.form.+are_steps.Given as goal

abbrev pub decreases-are_steps : goal.decreases-are_steps
decreases-are_steps l = l.count
