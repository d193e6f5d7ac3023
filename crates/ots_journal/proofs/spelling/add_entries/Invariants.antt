use Rattle.std.proofs.Common.{◌≡◌, ◌≤◌, ◌+◌, ◌++◌, take, length, vec_capacity}
use Rattle.ots_journal.specs.Image.{entries_bytes}
use Rattle.ots_journal.specs.Stored.{Adds}
use Rattle.ots_journal.proofs.spelling.add_entries.Given as goal

abbrev pub invariant-loop-entry : goal.invariant-loop-entry
invariant-loop-entry l = record {
  bytes : l.file.items ≡ l.fn.file.items ++ entries_bytes (take l.entry-index l.entries);
  count : length l.places.items ≡ length l.fn.places.items + l.entry-index;
  entries : Adds l.fn.file.items l.file.items l.fn.places.items l.places.items (take l.entry-index l.entries);
  file_room : vec_capacity l.fn.file ≤ vec_capacity l.file;
  places_room : vec_capacity l.fn.places ≤ vec_capacity l.places;
}
