-- Which names were opened, as a shelf tells the names that were opened.
use Rattle.std.specs.Prelude.{◌≡◌, ◌⊎◌, ℕ, List, [], ◌∷◌, ◌++◌, take, Option}
use Rattle.std.specs.Option.{option_map}
use Rattle.ots_base.specs.Cause.{Rose}
use Rattle.ots_outside.specs.Shelf.{ShelfFaults}

-- These names were opened, in this order.
abbrev pub Opens : List (List ℕ) → Option (List (List ℕ)) → Option (List (List ℕ)) → Type 0
Opens names old new = new ≡ option_map (λ all. all ++ names) old

-- Of these names, the first ones were opened, in order.
abbrev pub OpensPrefix : List (List ℕ) → Option (List (List ℕ)) → Option (List (List ℕ)) → Type 0
OpensPrefix names old new = (n : ℕ) × Opens (take n names) old new

-- A name was not opened, and opening failed where that is a fault; or it was opened, and reading failed where it is.
abbrev pub IsOpenedOrNot : List ℕ → Option (List (List ℕ)) → Option (List (List ℕ)) → ShelfFaults → ShelfFaults → Type 0
    → Type 0
IsOpenedOrNot name old new before now faulted =
    (Opens [] old new × (faulted → Rose before.opening now.opening))
    ⊎ (Opens (name ∷ []) old new × (faulted → Rose before.reading now.reading))

-- Of these names reading stopped at this one, and those before it were opened: it was not, and opening failed; or it
-- was the last, and reading failed.
pub data StopsAt (names : List (List ℕ)) (old new : Option (List (List ℕ))) (before now : ShelfFaults)
    (name : List ℕ) : Type 0 where
  not_opened : (earlier later : List (List ℕ)) → names ≡ earlier ++ name ∷ later → Opens earlier old new
      → Rose before.opening now.opening
      → StopsAt names old new before now name
  opened_last : (earlier later : List (List ℕ)) → names ≡ earlier ++ name ∷ later → Opens (earlier ++ name ∷ []) old new
      → Rose before.reading now.reading → StopsAt names old new before now name
