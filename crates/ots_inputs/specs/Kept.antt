-- What of a shelf stays where names are read.
use Rattle.std.specs.Prelude.{◌≡◌, ℕ}
use Rattle.ots_outside.specs.Shelf.{NeverFalls, ShelfFaults, ShelfTold}

-- All that is told stays, but for the names that were opened, and for how often memory ran out where it was not enough.
-- Nothing was written.
pub record KeepsShelf (enough : Type 0) (old new : ShelfTold) (before now : ShelfFaults) : Type 0 where
  pub names : new.names ≡ old.names
  pub slots : (k : ℕ) → new.slots k ≡ old.slots k
  pub short : enough → new.short ≡ old.short
  pub later : NeverFalls before now
  pub writing : now.writing ≡ before.writing
