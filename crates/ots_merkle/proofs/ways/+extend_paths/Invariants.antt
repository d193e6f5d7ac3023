use Rattle.ots_merkle.proofs.ways.+extend_paths.Given as goal

abbrev pub decreases-extend_paths : goal.decreases-extend_paths
decreases-extend_paths l = l.height
