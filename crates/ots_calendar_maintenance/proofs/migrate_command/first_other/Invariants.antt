use Rattle.std.proofs.Common.{◌≡◌, take}
use Rattle.ots_calendar_maintenance.proofs.migrate_command.first_other.Given as goal

-- The entries up to here are the same.
abbrev pub invariant-loop-i : goal.invariant-loop-i
invariant-loop-i g l = take l.i l.store.journal.entries ≡ take l.i l.old
