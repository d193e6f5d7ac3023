-- What the reader of a reply sheet holds on its way.
use Rattle.std.specs.Prelude.{◌≡◌, ◌<◌, ◌≤◌, ◌+◌, ◌↔◌, ℕ, Bool, true, false, List, [], ◌∷◌, ◌++◌, codes, decimal, length, Option}
use Rattle.std.specs.Prelude.{IsTrue, Result, Ok, Err}
use Rattle.std.specs.declared.cmp.Ordering.TheVariants.{Less}
use Rattle.hex.specs.Hex.{encode_lower}
use Rattle.sha2.specs.Sha256.{sha256}
use Rattle.ots_base.specs.Told.{IfTold}
use Rattle.ots_outside.specs.Streams.{Gives}
use Rattle.ots_line_reader.specs.Lines.{Lines, NoFeed, to_come}
use Rattle.ots_sheet.specs.declared.limits.TheConstants.{MAX_LINES, MAX_SHEET}
use Rattle.ots_sheet.specs.Order.{request_order}
use Rattle.ots_sheet.specs.Reply.{Answer, reply_line}
use Rattle.ots_sheet.specs.Sheet.{AreAnswers, Fits, IsBadSheet, lines_text, reply_lines}
use Rattle.ots_replies.specs.declared.error.SheetError.{SheetError}
use Rattle.ots_replies.specs.declared.error.SheetError.TheVariants.{BadSheet, OutOfMemory, ReadFault}
use Rattle.ots_replies.specs.declared.reading.Answers.{Answers}

-- The last request comes after the one before it.
abbrev pub EndsInOrder : List Answer → Type 0
EndsInOrder answers = (before : List Answer) (a b : Answer) → answers ≡ before ++ a ∷ b ∷ []
    → request_order a.request b.request ≡ Less

pub record TakesOne (old new : List Answer) (line : List ℕ) : Type 0 where
  pub answer : Answer
  pub added : new ≡ old ++ answer ∷ []
  pub text : line ≡ reply_line answer
  pub good : AreAnswers new
  pub few : length new ≤ MAX_LINES

abbrev pub TakesAnswer : List Answer → List Answer → List ℕ → Bool → Type 0
TakesAnswer old new line true = TakesOne old new line
TakesAnswer old new line false = (a : Answer) → length old < MAX_LINES → AreAnswers (old ++ a ∷ []) → line ≡ reply_line a → ⊥

-- the last line of a sheet of so many lines with this digest
abbrev pub last_line : ℕ → List ℕ → List ℕ
last_line count digest = codes "sum " ++ (decimal count ++ 32 ∷ encode_lower digest)

pub record IsEnd (a : Answers) (line : List ℕ) : Type 0 where
  pub few : length a.store < MAX_LINES
  pub small : a.size + length line + 1 ≤ MAX_SHEET
  pub text : line ≡ last_line (length a.store) a.digest

abbrev pub EndsRight : Answers → List ℕ → Bool → Type 0
EndsRight a line right = IsTrue right ↔ IsEnd a line

-- the lines of these answers came
pub record HasCome (left now : Option (List ℕ)) (lines : Lines) (answers : List Answer) : Type 0 where
  pub came : Gives left (to_come lines now) (lines_text (reply_lines answers))
  pub good : AreAnswers answers
  pub fits : Fits (reply_lines answers)

-- The same, and then a line that begins as a last one.
pub record HasComeTo (lines : Lines) (left now : Option (List ℕ)) (a : Answers) : Type 0 where
  pub came : Gives left (to_come lines now) (lines_text (reply_lines a.store) ++ (lines.line ++ 10 ∷ []))
  pub good : AreAnswers a.store
  pub fits : Fits (reply_lines a.store)
  pub digest : a.digest ≡ sha256 (lines_text (reply_lines a.store))
  pub size : a.size ≡ length (lines_text (reply_lines a.store))
  pub no_feed : NoFeed lines.line
  pub begins : (rest : List ℕ) × (lines.line ≡ codes "sum " ++ rest)

-- The text that is left is bad at this line.
pub record IsBadLeft (left : Option (List ℕ)) (number : ℕ) : Type 0 where
  pub text : List ℕ
  pub told : IfTold left (λ bytes. bytes ≡ text)
  pub bad : IsBadSheet text number

abbrev pub ReadsAnswers : Lines → Option (List ℕ) → Option (List ℕ) → Result Answers SheetError → Type 0
ReadsAnswers lines left now (Ok answers) = HasComeTo lines left now answers
ReadsAnswers lines left now (Err (BadSheet number)) = IsBadLeft left number
ReadsAnswers lines left now (Err ReadFault) = Unit {0}
ReadsAnswers lines left now (Err OutOfMemory) = Unit {0}
