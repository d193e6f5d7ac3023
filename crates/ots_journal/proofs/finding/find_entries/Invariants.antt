use Rattle.std.proofs.Common.{◌-◌, length}
use Rattle.std.specs.List.{AllByRecursion}
use Rattle.ots_journal.specs.Opening.{ReadTo}
use Rattle.ots_journal.specs.Stored.{entries_at, EndsBy}
use Rattle.ots_journal.proofs.finding.find_entries.Given as goal

abbrev pub invariant-loop-gate : goal.invariant-loop-gate
invariant-loop-gate l = record {
  read : ReadTo l.bytes (entries_at l.bytes l.places.items) l.gate;
  within : AllByRecursion (EndsBy l.gate) l.places.items;
}

abbrev pub decreases-loop-gate : goal.decreases-loop-gate
decreases-loop-gate l = length l.bytes - l.gate
