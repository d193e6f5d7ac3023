use Rattle.ots_archive_taken.proofs.OneTaken.{one_taken}
use Rattle.ots_archive_taken.proofs.laws.one_taken.Goals as goal

pub returns : goal.returns
returns c = λ answers proof least first second ok. one_taken answers ok proof least first second
