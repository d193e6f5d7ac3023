-- What a crash may leave of a journal's file.
use Rattle.std.specs.Prelude.{◌≡◌, ℕ, List, ◌++◌, Option, Some}
use Rattle.ots_journal.specs.declared.entry.Entry.{Entry}
use Rattle.ots_journal.specs.Image.{Stands}

-- An image stands for entries that begin with these.
abbrev pub StandsAfter : List Entry → List ℕ → Type 0
StandsAfter entries c = (later : List Entry) × Stands c (entries ++ later)

-- What is read stands for these entries, and a crash now leaves nothing else.
pub record IsOnlyImage (told : Option (List ℕ)) (images : List ℕ → Type 0) (entries : List Entry) : Type 0 where
  pub bytes : List ℕ
  pub is_told : told ≡ Some bytes
  pub stand : Stands bytes entries
  pub only : (c : List ℕ) → images c → c ≡ bytes
