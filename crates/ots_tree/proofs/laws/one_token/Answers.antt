use Rattle.ots_tree.proofs.Determined.{token-apart}
use Rattle.ots_tree.proofs.laws.one_token.Goals as goal

pub returns : goal.returns
returns c = token-apart
