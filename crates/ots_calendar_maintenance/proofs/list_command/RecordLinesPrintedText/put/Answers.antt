use Rattle.std.proofs.Common.{refl}
use Rattle.ots_calendar_maintenance.proofs.list_command.RecordLinesPrintedText.put.Goals as goal

pub returns-clause-put : goal.returns-clause-put
returns-clause-put g c = (_, refl, c.put_lines.ensures)
