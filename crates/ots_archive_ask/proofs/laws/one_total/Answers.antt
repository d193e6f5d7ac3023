use Rattle.ots_archive_ask.proofs.OneTotal as laws
use Rattle.ots_archive_ask.proofs.laws.one_total.Goals as goal

pub returns : goal.returns
returns c = laws.one_total
