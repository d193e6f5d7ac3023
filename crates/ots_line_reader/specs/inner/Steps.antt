-- What the parts of a step do.
use Rattle.std.specs.Prelude.{◌≡◌, ◌<◌, ℕ, Bool, true, false, List, [], ◌∷◌, ◌++◌, length, Option, Result, Ok, Err}
use Rattle.std.specs.Io.KnownBytes.{IsAtEnd}
use Rattle.ots_outside.specs.Streams.{Gives}
use Rattle.ots_outside.specs.declared.failed.Failed.{Failed}
use Rattle.ots_line_reader.specs.declared.reader.TheConstants.{ROOM}
use Rattle.ots_line_reader.specs.Lines.{Lines, NoFeed}

-- the line at the start of what is held
pub record IsTaken (old new : Lines) : Type 0 where
  pub split : old.held ≡ new.line ++ 10 ∷ new.held
  pub no_feed : NoFeed new.line
  pub short : length new.line < ROOM

-- no line feed is held
pub record NoneTaken (old new : Lines) : Type 0 where
  pub no_feed : NoFeed new.held
  pub same : new.held ≡ old.held
  pub no_line : new.line ≡ []

abbrev pub TakesLine : Lines → Lines → Bool → Type 0
TakesLine old new true = IsTaken old new
TakesLine old new false = NoneTaken old new

-- A piece of so many bytes came after what was held, none only at the end.
pub record Fills (old new : Lines) (left now : Option (List ℕ)) (count : ℕ) : Type 0 where
  pub piece : List ℕ
  pub gave : Gives left now piece
  pub held : new.held ≡ old.held ++ piece
  pub many : length piece ≡ count
  pub end : count ≡ 0 → IsAtEnd now
  pub no_line : new.line ≡ []

-- Nothing came.
pub record NotFilled (old new : Lines) (left now : Option (List ℕ)) : Type 0 where
  pub same : now ≡ left
  pub held : new.held ≡ old.held
  pub no_line : new.line ≡ []

abbrev pub FillsOrNot : Lines → Lines → Option (List ℕ) → Option (List ℕ) → Result ℕ Failed → Type 0
FillsOrNot old new left now (Ok count) = Fills old new left now count
FillsOrNot old new left now (Err e) = NotFilled old new left now
