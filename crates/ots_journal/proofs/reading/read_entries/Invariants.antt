use Rattle.std.proofs.Common.{◌≡◌, ◌+◌, take, drop, length}
use Rattle.std.specs.List.{AllByRecursion}
use Rattle.ots_journal.specs.Stored.{entries_at, EndsBy}
use Rattle.ots_journal.proofs.GroupReading.{EntriesSoFar}
use Rattle.ots_journal.proofs.reading.read_entries.Given as goal

abbrev pub invariant-loop : goal.invariant-loop
invariant-loop l = record {
  read : EntriesSoFar l.entries l.rest (entries_at l.bytes l.fn.places.items) (entries_at l.bytes l.places.items) l.count l.counter;
  size : l.start + length l.rest ≡ l.from + length l.entries;
  there : l.rest ≡ take (length l.rest) (drop l.start l.bytes);
  within : AllByRecursion (EndsBy l.start) l.places.items;
}
