-- Links that are accepted and given back.
use Rattle.std.specs.Prelude.{◌≡◌, ◌≤◌, ◌⊎◌, ℕ, ◌+◌, ◌-◌, ◌^◌, min, max, List, [], ◌++◌, Option, None, Some}
use Rattle.std.specs.List.{AllByRecursion}
use Rattle.std.specs.Option.{option_map}
use Rattle.ots_outside.specs.Link.{IsFresh, LinkTold}

-- These links were the first of those to come, where these are told, and the others are left.
abbrev pub Comes : {L : Type 0} → List L → Option (List L) → Option (List L) → Type 0
Comes links old new = old ≡ option_map (λ rest. links ++ rest) new

-- Each has given and taken nothing, and has counted no fault.
abbrev pub AreFresh : {L : Type 0} → (L → Option LinkTold) → (L → ℕ) → List L → Type 0
AreFresh told faults links = AllByRecursion (λ link. IsFresh (told link) (faults link)) links

-- a count that rose by so many, up to 2^64 - 1, where it stays
abbrev pub counted : ℕ → ℕ → ℕ
counted count many = min (count + many) (2 ^ 64 - 1)

-- So many links were accepted as were asked for, where a number was.
abbrev pub Reaches : Option ℕ → ℕ → Type 0
Reaches None count = ⊥
Reaches (Some until) count = until ≤ count

-- No more links were accepted than were asked for, where a number was.
abbrev pub StaysWithin : Option ℕ → ℕ → ℕ → Type 0
StaysWithin None old new = Unit {0}
StaysWithin (Some until) old new = new ≤ max old until

-- No link is to come, or as many were accepted as were asked for.
abbrev pub IsOver : {L : Type 0} → Option (List L) → Option ℕ → ℕ → Type 0
IsOver coming until count = (coming ≡ Some []) ⊎ Reaches until count

-- These links were given back, in order. An accepter whose room has ended may stop telling which were.
abbrev pub GivesAllBack : {L : Type 0} → Option (List L) → List L → Option (List L) → Type 0
GivesAllBack old links None = Unit {0}
GivesAllBack old links (Some returned) = option_map (λ earlier. earlier ++ links) old ≡ Some returned
