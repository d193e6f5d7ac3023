use Rattle.ots_archive_taken.proofs.As.{as_completed}
use Rattle.ots_upgrade.specs.Upgrading.{trees_of}
use Rattle.ots_archive_taken.proofs.laws.taken_as_completed.Goals as goal

pub returns : goal.returns
returns c = λ answers proof made pairs asked. as_completed answers proof made pairs (trees_of asked)
