use Rattle.ots_calendar_commands.proofs.OneAnswer.{one_answer}
use Rattle.ots_calendar_commands.proofs.laws.one_answer.Goals as goal

pub returns : goal.returns
returns g c = λ old new t command d e alone f h. one_answer (g.T.Run.told old new) t command d e alone f h
