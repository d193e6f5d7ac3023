-- A text that is read line by line, and what each step finds in it. A line ends with a line feed (POSIX.1-2017, XBD
-- 3.206).
use Rattle.std.specs.Prelude.{◌≡◌, ◌≢◌, ◌<◌, ℕ, List, [], ◌∷◌, ◌++◌, length, Option, None, Some, Result}
use Rattle.std.specs.Prelude.{Ok, Err, IfOk, refl}
use Rattle.std.proofs.Common.{ap}
use Rattle.std.specs.List.{AllByRecursion}
use Rattle.std.specs.Option.{option_map}
use Rattle.std.specs.Io.KnownBytes.{IsAtEnd}
use Rattle.ots_outside.specs.Streams.{Gives}
use Rattle.ots_outside.specs.declared.failed.Failed.{Failed}
use Rattle.ots_line_reader.specs.declared.reader.TheConstants.{ROOM}
use Rattle.ots_line_reader.specs.declared.reader.Found.{Found}
use Rattle.ots_line_reader.specs.declared.reader.Found.TheVariants.{Line, End, Cut, Long}

pub record Lines : Type 0 where
  -- the line that was found last, without its line feed
  pub line : List ℕ
  -- what was read and not given yet
  pub held : List ℕ

-- No byte is a line feed.
abbrev pub NoFeed : List ℕ → Type 0
NoFeed bytes = AllByRecursion (λ b. b ≢ 10) bytes

-- what is still to come of the text, where the source tells what it has left
abbrev pub to_come : Lines → Option (List ℕ) → Option (List ℕ)
to_come lines left = option_map (λ rest. lines.held ++ rest) left

-- What a step gives of the text: a line with its line feed, or nothing.
abbrev pub given : Lines → Result Found Failed → List ℕ
given new (Ok Line) = new.line ++ 10 ∷ []
given new (Ok End) = []
given new (Ok Cut) = []
given new (Ok Long) = []
given new (Err e) = []

-- What is found: a line, which has room with its line feed; nothing, at the end of the text; bytes without a line feed,
-- at its end; as many of these as there is room for. Where it is no line, the bytes are still to come.
abbrev pub IsFound : Lines → Option (List ℕ) → Found → Type 0
IsFound new left Line = NoFeed new.line × (length new.line < ROOM)
IsFound new left End = (new.held ≡ []) × IsAtEnd left
IsFound new left Cut = NoFeed new.held × (new.held ≢ []) × (length new.held < ROOM) × IsAtEnd left
IsFound new left Long = NoFeed new.held × (length new.held ≡ ROOM)

-- One step, over what a source has left before and after it. Where no line was found, none is shown.
pub record Advances (old new : Lines) (left now : Option (List ℕ)) (result : Result Found Failed) : Type 0 where
  pub gave : Gives (to_come old left) (to_come new now) (given new result)
  pub found : IfOk result (IsFound new now)
  pub no_line : ¬ (result ≡ Ok Line) → new.line ≡ []

-- Before the first step all that the source has left is to come.
pub to_come-start : (lines : Lines) (left : Option (List ℕ)) → lines.held ≡ [] → to_come lines left ≡ left
to_come-start lines None none = refl
to_come-start lines (Some rest) none = ap (λ (z : List ℕ). Some (z ++ rest)) none
