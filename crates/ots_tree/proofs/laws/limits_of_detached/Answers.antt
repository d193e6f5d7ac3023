use Rattle.ots_tree.proofs.Untruncated.{sound_pre}
use Rattle.ots_tree.proofs.laws.limits_of_detached.Goals as goal

pub returns-clause-sound : goal.returns-clause-sound
returns-clause-sound c = sound_pre _ _ c.args.proof.now.tree_sound
