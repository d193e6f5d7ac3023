use Rattle.std.proofs.Common.{take, ◌≤◌}
use Rattle.std.specs.List.{AllByRecursion}
use Rattle.ots_store.specs.Opening.{HeldTo}
use Rattle.ots_store.specs.Order.{records_of}
use Rattle.ots_store.specs.Records.{IsRecord}
use Rattle.ots_store.proofs.opening.hold_records.Given as goal

abbrev pub invariant-loop-i : goal.invariant-loop-i
invariant-loop-i g l = record {
  each : AllByRecursion IsRecord (take l.i l.journal.entries);
  held : HeldTo (records_of (take l.i l.journal.entries)) l.lists l.progress;
  few : l.progress.commits ≤ l.i;
}
