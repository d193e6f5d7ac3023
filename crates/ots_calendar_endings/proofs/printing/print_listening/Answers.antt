use Rattle.ots_calendar_endings.proofs.printing.print_listening.Goals as goal

pub returns-clause-printed : goal.returns-clause-printed
returns-clause-printed g c = rw c.print_whole.ensures.printed.1 at c.print_whole.ensures.printed.2
