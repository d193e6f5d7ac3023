use Rattle.ots_calendar_maintenance.proofs.list_command.print_records.Goals as goal

pub returns-clause-printed : goal.returns-clause-printed
returns-clause-printed g c = rw c.print_last.ensures.printed.1 at c.print_last.ensures.printed.2
