use Rattle.ots_gateway.proofs.Lawful.{sound_taken, sound_trees}
use Rattle.ots_gateway.specs.Taking.{taking}
use Rattle.ots_gateway.proofs.laws.taken_trees_are_sound.Goals as goal

pub returns-clause-outcomes : goal.returns-clause-outcomes
returns-clause-outcomes c = sound_taken

pub returns-clause-trees : goal.returns-clause-trees
returns-clause-trees c = λ n k way answered sound. sound_trees n k (taking way answered) (sound_taken n k way answered sound)
