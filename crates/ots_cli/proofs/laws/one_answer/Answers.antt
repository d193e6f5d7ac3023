use Rattle.ots_cli.proofs.CarriedOnce.{carried_once}
use Rattle.ots_cli.proofs.OneAnswer.{answer_to}
use Rattle.ots_cli.proofs.OneOpening.{one_opening}
use Rattle.ots_cli.proofs.laws.one_answer.Goals as goal

pub returns-clause-ending : goal.returns-clause-ending
returns-clause-ending c = answer_to

pub returns-clause-carried : goal.returns-clause-carried
returns-clause-carried c = λ e names taken new other now later q r enough also f g.
    let same = carried_once e.status e.acts names new other taken now later q r enough also f g in (same.names_are, same.taken_are, same.status_is)

pub returns-clause-opened : goal.returns-clause-opened
returns-clause-opened c = one_opening
