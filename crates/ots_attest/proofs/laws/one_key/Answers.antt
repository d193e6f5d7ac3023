use Rattle.ots_attest.proofs.Keys.{one_key}
use Rattle.ots_attest.proofs.laws.one_key.Goals as goal

pub returns : goal.returns
returns c = one_key
