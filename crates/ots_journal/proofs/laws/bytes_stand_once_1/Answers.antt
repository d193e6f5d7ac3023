use Rattle.ots_journal.proofs.OldReading.{stands_once1}
use Rattle.ots_journal.proofs.laws.bytes_stand_once_1.Goals as goal

pub returns : goal.returns
returns c = stands_once1
