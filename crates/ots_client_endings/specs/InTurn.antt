-- Which names are opened: in the order of reading, each once all before it are accepted.
use Rattle.std.specs.Prelude.{◌≡◌, ◌⊎◌, ℕ, List, [], ◌∷◌, ◌++◌, Option}
use Rattle.ots_client_inputs.specs.Inputs.{AreAccepted, Input, IsAbsent, IsRefused, names_in}
use Rattle.ots_inputs.specs.Opened.{Opens}
use Rattle.ots_outside.specs.Shelf.{Names}

-- Reading these inputs stopped after some, which are all accepted, and were opened.
pub data StopsInTurn (told : Option Names) (inputs : List Input) (broken : Type 0)
    (old new : Option (List (List ℕ))) : Type 0 where
  -- The next is not there, and was not opened.
  at_absent : (earlier later : List Input) (i : Input) → inputs ≡ earlier ++ i ∷ later → AreAccepted told earlier
      → IsAbsent told i → Opens (names_in earlier) old new → StopsInTurn told inputs broken old new
  -- It is refused, and was opened last.
  at_refused : (earlier later : List Input) (i : Input) → inputs ≡ earlier ++ i ∷ later → AreAccepted told earlier
      → IsRefused told i → Opens (names_in (earlier ++ i ∷ [])) old new → StopsInTurn told inputs broken old new
  -- Reading was broken off before the next was opened, or after.
  broken_off : (earlier later : List Input) → inputs ≡ earlier ++ later → AreAccepted told earlier → broken
      → Opens (names_in earlier) old new → StopsInTurn told inputs broken old new
  broken_after : (earlier later : List Input) (i : Input) → inputs ≡ earlier ++ i ∷ later → AreAccepted told earlier
      → broken → Opens (names_in (earlier ++ i ∷ [])) old new → StopsInTurn told inputs broken old new

-- All are accepted, and were opened; or reading stopped at one.
abbrev pub OpensInTurn : Option Names → List Input → Type 0 → Option (List (List ℕ)) → Option (List (List ℕ)) → Type 0
OpensInTurn told inputs broken old new = (AreAccepted told inputs × Opens (names_in inputs) old new)
    ⊎ StopsInTurn told inputs broken old new
