-- What is under a name.
use Rattle.std.specs.Prelude.{◌≡◌, ℕ, List, Option, Some, IsSome}
use Rattle.std.specs.FinMap as map
use Rattle.ots_base.specs.Told.{IfTold}
use Rattle.ots_outside.specs.Shelf.{Names}

-- What is under the name: nothing, or these bytes, as the names say that the shelf tells. Of a shelf
-- that tells none, as of real files, nothing is said.
abbrev pub IsUnder : Option Names → List ℕ → Option (List ℕ) → Type 0
IsUnder told name found = IfTold told (λ names. map.get names name ≡ found)

-- the name is there
abbrev pub IsThere : Option Names → List ℕ → Type 0
IsThere told name = IfTold told (λ names. IsSome (map.get names name))

-- Bytes are under the name, of which this holds.
abbrev pub HasUnder : Option Names → List ℕ → (List ℕ → Type 0) → Type 0
HasUnder told name P = (bytes : List ℕ) × IsUnder told name (Some bytes) × P bytes
