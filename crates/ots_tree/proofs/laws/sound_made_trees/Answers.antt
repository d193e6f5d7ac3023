use Rattle.ots_tree.proofs.MadePaths.{sound_lone, sound_under, sound_beside}
use Rattle.ots_tree.proofs.laws.sound_made_trees.Goals as goal

pub returns-clause-lone : goal.returns-clause-lone
returns-clause-lone c = sound_lone

pub returns-clause-under : goal.returns-clause-under
returns-clause-under c = sound_under

pub returns-clause-beside : goal.returns-clause-beside
returns-clause-beside c = sound_beside
