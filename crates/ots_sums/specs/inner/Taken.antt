-- What is done with one line.
use Rattle.std.specs.Prelude.{◌≡◌, ◌≤◌, ◌<◌, ◌+◌, ℕ, Bool, true, false, List, [], ◌∷◌, ◌++◌, length, Option, Result, Ok}
use Rattle.std.specs.Prelude.{Err}
use Rattle.ots_base.specs.declared.out_of_memory.OutOfMemory.{OutOfMemory}
use Rattle.ots_sums.specs.declared.reading.TheConstants.{MAX_LINES}
use Rattle.ots_sums.specs.declared.reading.SumsError.{SumsError}
use Rattle.ots_sums.specs.declared.reading.SumsError.TheVariants as error
use Rattle.ots_inputs.specs.Lines.{BeginsLines}
use Rattle.ots_line_reader.specs.Lines.{Lines, to_come}
use Rattle.ots_outside.specs.Streams.{Gives}
use Rattle.ots_sums.specs.Sums.{Entry, IsSumLine}

-- The entry of which P holds was added, or none has it.
abbrev pub PushesWhere : (Entry → Type 0) → List Entry → List Entry → Result Bool OutOfMemory → Type 0
PushesWhere P old new (Ok true) = (e : Entry) × (new ≡ old ++ e ∷ []) × P e
PushesWhere P old new (Ok false) = ((e : Entry) → P e → ⊥) × (new ≡ old)
PushesWhere P old new (Err e) = Unit {0}

-- A line was taken: its entry was added, and they are not too many. Or it is none, or there are too many.
abbrev pub TakesLine : List ℕ → List Entry → List Entry → Result Unit SumsError → Type 0
TakesLine line old new (Ok u) = (e : Entry) × (new ≡ old ++ e ∷ []) × IsSumLine line e × (length old < MAX_LINES)
TakesLine line old new (Err (error.BadLine number)) =
    (number ≡ length old + 1) × (length old < MAX_LINES → (e : Entry) → IsSumLine line e → ⊥)
TakesLine line old new (Err error.ReadFault) = ⊥
TakesLine line old new (Err error.OutOfMemory) = Unit {0}

-- What was given so far is the lines of these entries.
pub record CameTo (left now : Option (List ℕ)) (entries : List Entry) (reader : Lines) : Type 0 where
  pub came : List ℕ
  pub gave : Gives left (to_come reader now) came
  pub lines : BeginsLines IsSumLine came entries []
  pub few : length entries ≤ MAX_LINES
