-- The holds of a call: what they leave of its pass.
use Rattle.std.specs.Prelude.{◌≡◌, ◌≤◌, ℕ, ◌+◌, ◌-◌, ◌^◌, min, false, List, [], ◌∷◌, ◌++◌, length}
use Rattle.std.specs.List.{AllByRecursion}
use Rattle.ots_shared.specs.Records.{StartsWith}
use Rattle.ots_shared.specs.Rows.{latest}
use Rattle.ots_shared.specs.Told.{PassTold}
use Rattle.ots_shared.specs.declared.row.Row.{Row}

-- The rows of a pass once these are added, one after the other: of four the oldest goes.
abbrev pub with_rows : List Row → List Row → List Row
with_rows holds [] = holds
with_rows holds (row ∷ rows) = with_rows (latest (holds ++ row ∷ [])) rows

-- How many holds were released once these are: each is one more, up to 2^64 - 1.
abbrev pub with_count : ℕ → List Row → ℕ
with_count made [] = made
with_count made (row ∷ rows) = with_count (min (made + 1) (2 ^ 64 - 1)) rows

-- At most one ticket more waits as the hold left the book than as it found it.
abbrev pub PutsOne : Row → Type 0
PutsOne row = row.waiting_left ≤ row.waiting_found + 1

-- The hold changed no record, no more calls of the disk have failed, and the gate is at its place.
pub record KeepsStore (row : Row) : Type 0 where
  pub records : row.records_left ≡ row.records_found
  pub gate : row.gate_left ≡ row.gate_found
  pub faults : row.faults_left ≡ row.faults_found

-- The hold changed nothing: no record, no call that the disk has failed, the gate at its place, as many tickets.
pub record ChangesNothing (row : Row) : Type 0 where
  pub records : row.records_left ≡ row.records_found
  pub gate : row.gate_left ≡ row.gate_found
  pub faults : row.faults_left ≡ row.faults_found
  pub waiting : row.waiting_left ≡ row.waiting_found

-- The call made these holds, at most three, and no other.
pub record Holds (old new : PassTold) (rows : List Row) : Type 0 where
  pub seat : new.seat ≡ old.seat
  pub free : new.holding ≡ false
  pub seen : StartsWith new.seen old.seen
  pub told : new.told ≡ old.told
  pub holds : new.holds ≡ with_rows old.holds rows
  pub made : new.made ≡ with_count old.made rows
  pub few : length rows ≤ 3
  pub put_one : AllByRecursion PutsOne rows
