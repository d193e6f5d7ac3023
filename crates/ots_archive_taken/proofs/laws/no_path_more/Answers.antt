use Rattle.ots_archive_taken.proofs.NoMore.{no_path_more}
use Rattle.ots_archive_taken.proofs.laws.no_path_more.Goals as goal

pub returns : goal.returns
returns c = no_path_more
