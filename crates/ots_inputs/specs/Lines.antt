-- A file of lines: each has an item, and ends with a line feed.
use Rattle.std.specs.Prelude.{◌≡◌, ◌≢◌, ◌<◌, ◌≤◌, ◌^◌, ℕ, suc, List, [], ◌∷◌, ◌++◌, length, Option, Result, Ok, Err}
use Rattle.std.specs.Prelude.{Vec}
use Rattle.std.specs.List.{AllByRecursion}
use Rattle.std.specs.declared.alloc.Global.{Global}
use Rattle.ots_base.specs.Told.{IfTold}
use Rattle.ots_inputs.specs.declared.lines.TheConstants.{ROOM}
use Rattle.ots_inputs.specs.declared.error.InputError.{InputError}
use Rattle.ots_inputs.specs.declared.error.InputError.TheVariants as input
use Rattle.ots_inputs.specs.declared.lines.LinesError.{LinesError}
use Rattle.ots_inputs.specs.declared.lines.LinesError.TheVariants.{ReadFault, BadLine, OutOfMemory}

-- What is kept by each form of lines, which relates the bytes before a line feed and their item. A line is shorter than
-- the longest, which counts the line feed. No line feed is within it, so that lines are told apart. It has one item.
pub record IsForm {A : Type 0} (is_item : List ℕ → A → Type 0) (longest limit : ℕ) : Type 0 where
  pub short : (line : List ℕ) (item : A) → is_item line item → length line < longest
  pub no_end : (line : List ℕ) (item : A) → is_item line item → AllByRecursion (λ b. b ≢ 10) line
  pub one : (line : List ℕ) (first second : A) → is_item line first → is_item line second → first ≡ second
  pub some : 1 ≤ longest
  pub fits : longest ≤ ROOM
  pub few : limit < 2 ^ 63

-- The bytes begin with a line, of this item, and have these after it.
pub record BeginsLine {A : Type 0} (is_item : List ℕ → A → Type 0) (bytes : List ℕ) (item : A) (after : List ℕ)
    : Type 0 where
  pub line : List ℕ
  pub is : is_item line item
  pub whole : bytes ≡ line ++ 10 ∷ after

-- They begin with the lines of these items, and have this rest after them.
abbrev pub BeginsLines : {A : Type 0} → (List ℕ → A → Type 0) → List ℕ → List A → List ℕ → Type 0
BeginsLines is_item bytes [] rest = bytes ≡ rest
BeginsLines is_item bytes (item ∷ items) rest = (after : List ℕ) × BeginsLine is_item bytes item after
    × BeginsLines is_item after items rest

-- A line stands at the start.
pub record HasLine {A : Type 0} (is_item : List ℕ → A → Type 0) (bytes : List ℕ) : Type 0 where
  pub item : A
  pub after : List ℕ
  pub begins : BeginsLine is_item bytes item after

-- at least one line and at most so many, and nothing else
pub record AreLines {A : Type 0} (is_item : List ℕ → A → Type 0) (limit : ℕ) (bytes : List ℕ) (items : List A)
    : Type 0 where
  pub lines : BeginsLines is_item bytes items []
  pub some : 1 ≤ length items
  pub most : length items ≤ limit

abbrev pub IsLinesOf : {A : Type 0} → (List ℕ → A → Type 0) → ℕ → List ℕ → Vec A Global → Type 0
IsLinesOf is_item limit bytes items = AreLines is_item limit bytes items.items

-- The line with this number, counted from 1, is the first that is none: after the lines before it something is left, or
-- there is no line at all; and no line stands there, or there are as many as may be.
pub record IsBadLine {A : Type 0} (is_item : List ℕ → A → Type 0) (limit : ℕ) (bytes : List ℕ) (number : ℕ)
    : Type 0 where
  pub items : List A
  pub rest : List ℕ
  pub lines : BeginsLines is_item bytes items rest
  pub at : number ≡ suc (length items)
  pub most : length items ≤ limit
  pub left : rest ≡ [] → items ≡ []
  pub none : length items < limit → HasLine is_item rest → ⊥

-- what a whole input gives
abbrev pub GivesLines : {A : Type 0} → (List ℕ → A → Type 0) → ℕ → List ℕ → Result (Vec A Global) LinesError → Type 0
GivesLines is_item limit bytes (Ok items) = IsLinesOf is_item limit bytes items
GivesLines is_item limit bytes (Err (BadLine number)) = IsBadLine is_item limit bytes number
GivesLines is_item limit bytes (Err ReadFault) = Unit {0}
GivesLines is_item limit bytes (Err OutOfMemory) = Unit {0}

-- The input is that which is left where that is told.
pub record ReadsLines {A : Type 0} (is_item : List ℕ → A → Type 0) (limit : ℕ) (left : Option (List ℕ))
    (result : Result (Vec A Global) LinesError) : Type 0 where
  pub bytes : List ℕ
  pub told : IfTold left (λ b. b ≡ bytes)
  pub gives : GivesLines is_item limit bytes result

-- the same error of a name
abbrev pub bad_line : LinesError → InputError ℕ
bad_line ReadFault = input.ReadFault
bad_line (BadLine number) = input.Refused number
bad_line OutOfMemory = input.OutOfMemory
