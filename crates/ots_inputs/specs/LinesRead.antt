-- What the reader of lines holds on its way. It serves its loops.
use Rattle.std.specs.Prelude.{◌≡◌, ◌≢◌, ◌<◌, ◌≤◌, ℕ, ◌+◌, suc, List, [], ◌++◌, length, drop, Option, Result, Ok, Err}
use Rattle.std.specs.Prelude.{Vec}
use Rattle.std.specs.List.{AllByRecursion}
use Rattle.std.specs.declared.alloc.Global.{Global}
use Rattle.ots_outside.specs.Streams.{Gives}
use Rattle.ots_inputs.specs.declared.lines.LinesError.{LinesError}
use Rattle.ots_inputs.specs.declared.lines.LinesError.TheVariants.{ReadFault, BadLine, OutOfMemory}
use Rattle.ots_inputs.specs.declared.lines.Start.{Start}
use Rattle.ots_inputs.specs.declared.lines.Start.TheVariants.{Whole, Bad, Open}
use Rattle.ots_inputs.specs.Lines.{BeginsLine, BeginsLines, HasLine}

-- No line stands here, whatever follows.
abbrev pub NoLine : {A : Type 0} → (List ℕ → A → Type 0) → List ℕ → Type 0
NoLine is_item bytes = (more : List ℕ) → HasLine is_item (bytes ++ more) → ⊥

-- the start of a line, without its line feed, and shorter than the longest one
pub record IsOpen (longest : ℕ) (bytes : List ℕ) : Type 0 where
  pub short : length bytes < longest
  pub no_end : AllByRecursion (λ b. b ≢ 10) bytes

abbrev pub TakesLine : {A : Type 0} → (List ℕ → A → Type 0) → ℕ → List ℕ → Start A → Type 0
TakesLine is_item longest bytes (Whole item size) = BeginsLine is_item bytes item (drop size bytes)
    × (size ≤ length bytes) × (1 ≤ size)
TakesLine is_item longest bytes Bad = NoLine is_item bytes
TakesLine is_item longest bytes Open = IsOpen longest bytes

-- The first `used` bytes are lines, and their items stand after the others.
pub record TakenTo {A : Type 0} (is_item : List ℕ → A → Type 0) (limit : ℕ) (bytes : List ℕ) (old new : List A)
    (used : ℕ) : Type 0 where
  pub items : List A
  pub added : new ≡ old ++ items
  pub lines : BeginsLines is_item bytes items (drop used bytes)
  pub within : used ≤ length bytes
  pub few : length new ≤ limit

-- The same of all whole lines. What is left is open.
pub record TakesLines {A : Type 0} (is_item : List ℕ → A → Type 0) (longest limit : ℕ) (bytes : List ℕ)
    (old new : List A) (used : ℕ) : Type 0 where
  pub taken : TakenTo is_item limit bytes old new used
  pub open_rest : IsOpen longest (drop used bytes)

-- After lines no line stands, whatever follows, or there are too many.
pub record StopsAtLine {A : Type 0} (is_item : List ℕ → A → Type 0) (limit : ℕ) (bytes : List ℕ) (old : List A)
    (number : ℕ) : Type 0 where
  pub items : List A
  pub rest : List ℕ
  pub lines : BeginsLines is_item bytes items rest
  pub at : number ≡ suc (length old + length items)
  pub most : length old + length items ≤ limit
  pub left : 0 < length rest
  pub none : length old + length items < limit → NoLine is_item rest

abbrev pub StopsLines : {A : Type 0} → (List ℕ → A → Type 0) → ℕ → List ℕ → List A → LinesError → Type 0
StopsLines is_item limit bytes old (BadLine number) = StopsAtLine is_item limit bytes old number
StopsLines is_item limit bytes old ReadFault = ⊥
StopsLines is_item limit bytes old OutOfMemory = Unit {0}

-- What came so far is lines, and after them the start of one.
pub record CameTo {A : Type 0} (is_item : List ℕ → A → Type 0) (longest limit : ℕ) (left now : Option (List ℕ))
    (items : List A) (held : List ℕ) : Type 0 where
  pub came : List ℕ
  pub gave : Gives left now came
  pub lines : BeginsLines is_item came items held
  pub few : length items ≤ limit
  pub open_rest : IsOpen longest held

-- what is made of the lines at the end of the input, with so many bytes left after them
abbrev pub EndsLines : {A : Type 0} → List A → ℕ → Result (Vec A Global) LinesError → Type 0
EndsLines items left (Ok all) = (all.items ≡ items) × (1 ≤ length items) × (left ≡ 0)
EndsLines items left (Err (BadLine number)) = (number ≡ length items + 1) × (left ≡ 0 → items ≡ [])
EndsLines items left (Err ReadFault) = ⊥
EndsLines items left (Err OutOfMemory) = ⊥
