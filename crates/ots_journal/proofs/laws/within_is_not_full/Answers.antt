use Rattle.std.proofs.Common.{arith}
use Rattle.ots_journal.proofs.laws.within_is_not_full.Goals as goal

pub returns : goal.returns
returns c limit bytes need most within refused = omega (arith, within, refused.2)
