use Rattle.std.proofs.Common.{◌≡◌, ◌-◌, ◌≤◌, drop, length}
use Rattle.ots_store.specs.Order.{AreRecords, records_of}
use Rattle.ots_calendar_maintenance.specs.Carrying.{CarriedUpTo}
use Rattle.ots_calendar_maintenance.proofs.migrate_command.add_groups.Given as goal

-- The groups up to here were added, and the others may follow.
abbrev pub invariant-loop-done : goal.invariant-loop-done
invariant-loop-done g l =
    let d = g.D.Disk in
    record {
      carried : CarriedUpTo d.clock d.images d.images_since l.rest l.fn.store.journal l.store.journal l.done;
      records : AreRecords l.store.records (drop l.done l.rest);
      known : l.store.records ≡ records_of l.store.journal.entries;
      later : d.faults l.fn.store.journal.disk ≤ d.faults l.store.journal.disk;
    }

abbrev pub decreases-loop-done : goal.decreases-loop-done
decreases-loop-done g l = length l.rest - l.done
