use Rattle.std.proofs.Common.{◌≡◌, ◌≤◌, length, take}
use Rattle.ots_printer.specs.Printing.{Puts}
use Rattle.ots_store.specs.Order.{commits_of, records_of}
use Rattle.ots_calendar_maintenance.specs.List.{list_text}
use Rattle.ots_calendar_maintenance.proofs.list_command.put_lines.Given as goal

-- The lines of the records up to here were put.
abbrev pub invariant-loop-i : goal.invariant-loop-i
invariant-loop-i g l = record {
  put : Puts g.K.Sink.taken g.K.Sink.faults g.K.Sink.same (list_text (records_of (take l.i l.store.journal.entries))) l.fn.out l.out;
  commits : l.commits ≡ length (commits_of (records_of (take l.i l.store.journal.entries)));
  few : l.commits ≤ l.i;
}
