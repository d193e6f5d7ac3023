use Rattle.ots_shared.proofs.Begins.{stands_on}
use Rattle.ots_shared.proofs.laws.receipts_stay.Goals as goal

pub returns : goal.returns
returns c = stands_on
