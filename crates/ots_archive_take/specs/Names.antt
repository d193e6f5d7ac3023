-- Under which names `take` makes proofs: this project's rule.
use Rattle.std.specs.Prelude.{◌≡◌, ◌<◌, ◌-◌, ◌==◌, ℕ, List, [], ◌∷◌, ◌++◌, bytes_eq, codes, drop, length, take, Some}
use Rattle.std.specs.Prelude.{if◌then◌else◌}
use Rattle.std.specs.List.{slice_get}
use Rattle.ots_archive_steps.specs.Entries.{Entry, line, word}

abbrev pub slash : ℕ
slash = 47

-- what follows the last slash of these bytes, or what was found where they have none
abbrev pub after_last : List ℕ → List ℕ → List ℕ
after_last found [] = found
after_last found (byte ∷ rest) = if byte == slash then after_last rest rest else after_last found rest

-- what follows the last slash of a name, or all of it where it has none
abbrev pub last_of : List ℕ → List ℕ
last_of name = after_last name name

-- A draft becomes a proof.
abbrev pub proof_name : List ℕ → List ℕ
proof_name name =
    if bytes_eq (drop (length name - 6) name) (codes ".draft") then take (length name - 6) name ++ codes ".ots" else name

-- a proof's own name, but for its ending; or that of the file that it is about, with an ending
abbrev pub made_last : Entry → List ℕ
made_last (word name) = proof_name (last_of name)
made_last (line name) = last_of name ++ codes ".ots"

-- in this folder
abbrev pub made_name : List ℕ → Entry → List ℕ
made_name into entry = into ++ slash ∷ made_last entry

-- No two of these names are the same.
abbrev pub AreDistinct : List (List ℕ) → Type 0
AreDistinct names = (name : List ℕ) (i j : ℕ) → i < j → slice_get names i ≡ Some name → slice_get names j ≡ Some name → ⊥

-- The name at this place is the first that one before it has too.
pub record IsTwice (names : List (List ℕ)) (place : ℕ) : Type 0 where
  pub name : List ℕ
  pub at : slice_get names place ≡ Some name
  pub earlier : ℕ
  pub before : earlier < place
  pub there : slice_get names earlier ≡ Some name
  pub first : AreDistinct (take place names)
