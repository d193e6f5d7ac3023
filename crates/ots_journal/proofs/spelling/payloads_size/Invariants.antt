use Rattle.std.proofs.Common.{◌≡◌, ◌≤◌, ◌*◌, take}
use Rattle.ots_journal.specs.declared.limits.TheConstants.{MAX_ENTRY_PAYLOAD}
use Rattle.ots_journal.specs.Image.{payload_bytes}
use Rattle.ots_journal.proofs.spelling.payloads_size.Given as goal

abbrev pub invariant-loop-entry : goal.invariant-loop-entry
invariant-loop-entry l = record {
  so_far : l.size ≡ payload_bytes (take l.entry-index l.entries);
  bound : l.size ≤ l.entry-index * MAX_ENTRY_PAYLOAD;
}
