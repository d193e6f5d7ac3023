use Rattle.ots_varint.proofs.ReadBack.{reading_is, spelled_is}
use Rattle.ots_varint.proofs.laws.numbers_read_as_spelled.Goals as goal

pub returns : goal.returns
returns c = λ bytes n used fits. (reading_is bytes n used fits, spelled_is bytes n used)
