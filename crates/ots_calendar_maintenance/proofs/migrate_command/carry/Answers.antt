use Rattle.ots_calendar_maintenance.proofs.Migrating.{carry_printed}
use Rattle.ots_calendar_endings.proofs.Running.{refused_as}
use Rattle.ots_calendar_maintenance.proofs.migrate_command.carry.Goals as goal

pub returns-in-Err-clause-ends : goal.returns-in-Err-clause-ends
returns-in-Err-clause-ends g c = carry_printed c.in-Err.ensures.carries (refused_as _ _ _ _ _ _ c.status.ensures c.refuse.ensures.printed)
