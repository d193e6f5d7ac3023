use Rattle.std.proofs.Common.{◌≡◌, All, length}
use Rattle.ots_memory.specs.Entries.{IsSpare}
use Rattle.ots_memory.proofs.entries.spare_entries.Given as goal

-- So many spare entries are there as turns were done.
abbrev pub invariant-loop : goal.invariant-loop
invariant-loop l = record {
  count : length l.spare.items ≡ l.counter;
  spare : All (IsSpare l.room.name_length l.room.bytes) l.spare.items;
}
