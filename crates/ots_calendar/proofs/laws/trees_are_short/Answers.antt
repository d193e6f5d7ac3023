use Rattle.ots_calendar.proofs.Bodies.{ticket_short, answer_short}
use Rattle.ots_calendar.proofs.laws.trees_are_short.Goals as goal

pub returns-clause-ticket : goal.returns-clause-ticket
returns-clause-ticket c = ticket_short

pub returns-clause-answer : goal.returns-clause-answer
returns-clause-answer c = answer_short
