use Rattle.ots_varint.proofs.ReadBack.{answer_stays}
use Rattle.ots_varint.proofs.laws.answers_stay.Goals as goal

pub returns : goal.returns
returns c = answer_stays
