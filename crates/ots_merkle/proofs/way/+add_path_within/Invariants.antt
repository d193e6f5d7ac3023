use Rattle.ots_merkle.proofs.way.+add_path_within.Given as goal

abbrev pub decreases-add_path_within : goal.decreases-add_path_within
decreases-add_path_within l = l.height
