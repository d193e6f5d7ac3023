use Rattle.ots_base.specs.Cause.{Rose}
use Rattle.ots_gateway_run.proofs.Answered.{after_done}
use Rattle.ots_gateway_run.proofs.laws.done_runs_answer_each_link.Goals as goal

pub returns : goal.returns
returns g c = λ o asked first last old new taken now before added made was is. after_done o asked (Rose first last) old new before added was is taken now made
