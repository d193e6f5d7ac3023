-- How entries are kept: their names stand one after the other.
use Rattle.std.specs.Prelude.{◌≤◌, ◌-◌, ℕ, List, length, map, take, drop, All}
use Rattle.ots_sums.specs.declared.sums.Place.{Place}
use Rattle.ots_sums.specs.Sums.{Entry}

-- the entry of a place
abbrev pub entry_in : List ℕ → Place → Entry
entry_in bytes p = record { digest = p.digest; name = take (p.end - p.start) (drop p.start bytes) }

abbrev pub entries_in : List ℕ → List Place → List Entry
entries_in bytes places = map (entry_in bytes) places

-- its name is within the bytes
pub record IsWithin (bytes : List ℕ) (p : Place) : Type 0 where
  pub order : p.start ≤ p.end
  pub within : p.end ≤ length bytes

abbrev pub AreWithin : List ℕ → List Place → Type 0
AreWithin bytes places = All (IsWithin bytes) places
