use Rattle.ots_calendar.proofs.WholeWay.{complete_stays, pending_stays}
use Rattle.ots_calendar.proofs.laws.answers_stay.Goals as goal

pub returns-clause-complete : goal.returns-clause-complete
returns-clause-complete c = complete_stays

pub returns-clause-pending : goal.returns-clause-pending
returns-clause-pending c = pending_stays
