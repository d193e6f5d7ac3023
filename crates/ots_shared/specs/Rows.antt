-- The numbers of a book, and the rows of a caller's latest holds.
use Rattle.std.specs.Prelude.{ℕ, ◌-◌, List, length, drop}
use Rattle.ots_calendar.specs.Book.{BookTold}
use Rattle.ots_shared.specs.declared.row.Numbers.{Numbers}
use Rattle.ots_shared.specs.declared.row.Row.{Row}

-- How many records a book has, the place of its journal's closed gate, how often its disk has failed, and how many
-- tickets wait.
abbrev pub numbers : {D : Type 0} → (D → ℕ) → BookTold D → Numbers
numbers faults b = record {
  records = length b.store.records;
  gate = b.store.journal.gate;
  faults = faults b.store.journal.disk;
  waiting = length b.tickets.waiting;
}

abbrev pub row_of : Numbers → Numbers → Row
row_of found left = record {
  records_found = found.records;
  records_left = left.records;
  gate_found = found.gate;
  gate_left = left.gate;
  faults_found = found.faults;
  faults_left = left.faults;
  waiting_found = found.waiting;
  waiting_left = left.waiting;
}

-- The row of a hold that found a book like this and left it like that.
abbrev pub row : {D : Type 0} → (D → ℕ) → BookTold D → BookTold D → Row
row faults found left = row_of (numbers faults found) (numbers faults left)

-- The last three.
abbrev pub latest : List Row → List Row
latest rows = drop (length rows - 3) rows
