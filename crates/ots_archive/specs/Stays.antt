-- What a run leaves as it was.
use Rattle.std.specs.Prelude.{◌≡◌, ℕ, List, Some}
use Rattle.ots_outside.specs.Shelf.{ShelfTold, told_bytes}

-- What is under a name stays, each byte of it, where the shelf tells its names.
abbrev pub StaysUnder : ShelfTold → ShelfTold → Type 0
StaysUnder old new = (name bytes : List ℕ) → told_bytes old name ≡ Some bytes → told_bytes new name ≡ Some bytes
