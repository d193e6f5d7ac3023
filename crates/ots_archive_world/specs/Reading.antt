-- What is made of the bytes of a source.
use Rattle.std.specs.Prelude.{◌≡◌, ℕ, List, Option, Result, Ok, Err}
use Rattle.ots_archive_world.specs.declared.reader.ReadingError.{ReadingError}
use Rattle.ots_archive_world.specs.declared.reader.ReadingError.TheVariants as reading
use Rattle.ots_base.specs.Told.{IfTold}
use Rattle.ots_inputs.specs.declared.error.InputError.{InputError}
use Rattle.ots_inputs.specs.declared.error.InputError.TheVariants.{ReadFault, Refused, OutOfMemory}

-- What was read is what these bytes give, or their refusal. Of the rest nothing is said here.
abbrev pub MeansBytes : {A R : Type 0} → (List ℕ → A → Type 0) → (List ℕ → R → Type 0) → List ℕ
    → Result A (ReadingError R) → Type 0
MeansBytes Gives Refuses bytes (Ok x) = Gives bytes x
MeansBytes Gives Refuses bytes (Err reading.ReadFault) = Unit {0}
MeansBytes Gives Refuses bytes (Err (reading.Refused r)) = Refuses bytes r
MeansBytes Gives Refuses bytes (Err reading.OutOfMemory) = Unit {0}

-- The same of the bytes that a source has left, where it tells them.
pub record MeansSource {A R : Type 0} (Gives : List ℕ → A → Type 0) (Refuses : List ℕ → R → Type 0)
    (left : Option (List ℕ)) (r : Result A (ReadingError R)) : Type 0 where
  pub bytes : List ℕ
  pub told : IfTold left (λ all. all ≡ bytes)
  pub means : MeansBytes Gives Refuses bytes r

-- why the name of a source gives nothing
abbrev pub refused_source : {R : Type 0} → ReadingError R → InputError R
refused_source reading.ReadFault = ReadFault
refused_source (reading.Refused r) = Refused r
refused_source reading.OutOfMemory = OutOfMemory
