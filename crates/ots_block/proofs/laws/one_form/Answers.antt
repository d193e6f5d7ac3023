use Rattle.ots_block.proofs.OneAnswer.{one_form_lem}
use Rattle.ots_block.proofs.laws.one_form.Goals as goal

pub returns : goal.returns
returns c = one_form_lem
