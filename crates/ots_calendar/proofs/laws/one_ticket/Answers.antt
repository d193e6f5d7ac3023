use Rattle.ots_calendar.proofs.OneTicket.{is_gone, is_taken}
use Rattle.ots_calendar.proofs.laws.one_ticket.Goals as goal

pub returns-clause-withdrawn : goal.returns-clause-withdrawn
returns-clause-withdrawn c = is_gone

pub returns-clause-taken : goal.returns-clause-taken
returns-clause-taken c = is_taken
