use Rattle.ots_http.specs.ReplyTable.{good}
use Rattle.ots_http.proofs.OneAnswer.{one_outcome}
use Rattle.ots_mirror.proofs.laws.other_replies_are_honest.Goals as goal

pub returns : goal.returns
returns c all reply outcome has none body is = absurd (none body (one_outcome reply outcome (good body) has is))
