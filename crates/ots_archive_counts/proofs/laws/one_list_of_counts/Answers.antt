use Rattle.ots_archive_counts.proofs.OneCounts.{one_counts}
use Rattle.ots_archive_counts.proofs.laws.one_list_of_counts.Goals as goal

pub returns : goal.returns
returns c = λ answers first second good. one_counts answers good first second
