-- Making one file.
use Rattle.std.specs.Prelude.{◌≡◌, ◌⊎◌, ℕ, List, take, Option, None, IsErrOf, Result, Ok, Err}
use Rattle.ots_base.specs.Cause.{HasCauseWhere}
use Rattle.ots_outside.specs.Shelf.{Names, OnlyWriting, ShelfFaults, ShelfTold}
use Rattle.ots_outside.specs.Written.{with_name}
use Rattle.ots_outside.specs.declared.shelf.CreateError.{CreateError}
use Rattle.ots_outside.specs.declared.shelf.CreateError.TheVariants as creating
use Rattle.ots_inputs.specs.Under.{IsThere, IsUnder}
use Rattle.ots_outputs.specs.declared.output.OutputError.{OutputError}
use Rattle.ots_outputs.specs.declared.output.OutputError.TheVariants.{Exists, WriteFault, OutOfMemory}

abbrev pub not_created : CreateError → OutputError
not_created creating.Exists = Exists
not_created creating.Failed = WriteFault
not_created creating.OutOfMemory = OutOfMemory

-- Where a fault came, the name was not created, or holds a prefix of the file.
abbrev pub Outputs : List ℕ → List ℕ → Option Names → Option Names → Result (Unit {0}) OutputError → Type 0
Outputs name file old new (Ok done) = IsUnder old name None × (new ≡ with_name name file old)
Outputs name file old new (Err Exists) = IsThere old name × (new ≡ old)
Outputs name file old new (Err WriteFault) =
    IsUnder old name None × ((new ≡ old) ⊎ ((n : ℕ) × (new ≡ with_name name (take n file) old)))
Outputs name file old new (Err OutOfMemory) = new ≡ old

-- A file was made under a name, or why not. All that is told of the shelf but its names stays.
pub record MakesFile (name file : List ℕ) (old new : ShelfTold) (before now : ShelfFaults)
    (r : Result (Unit {0}) OutputError) : Type 0 where
  pub names : Outputs name file old.names new.names r
  pub opened : new.opened ≡ old.opened
  pub slots : (k : ℕ) → new.slots k ≡ old.slots k
  pub short : ¬ IsErrOf r OutOfMemory → new.short ≡ old.short
  pub cause : HasCauseWhere (IsErrOf r WriteFault) before.writing now.writing
  pub counts : OnlyWriting before now
