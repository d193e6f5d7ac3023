-- When serving is over.
use Rattle.std.specs.Prelude.{◌≡◌, ◌≤◌, ◌⊎◌, ℕ, Bool, true, List, [], Option, Some, None}

-- So many links were accepted as were asked for, where a number was.
abbrev pub Reaches : Option ℕ → ℕ → Type 0
Reaches None count = ⊥
Reaches (Some most) count = most ≤ count

-- No link is to come, or as many were accepted as were asked for.
abbrev pub IsDone : {L : Type 0} → Option (List L) → Option ℕ → ℕ → Type 0
IsDone coming most count = (coming ≡ Some []) ⊎ Reaches most count

-- Or an accept failed.
abbrev pub IsOver : {L : Type 0} → Bool → Option (List L) → Option ℕ → ℕ → Type 0
IsOver failed coming most count = (failed ≡ true) ⊎ IsDone coming most count
