-- A file of sums: a line each, of a SHA-256 digest and the name of a file, as sha256sum writes it (GNU coreutils'
-- manual, "md5sum invocation").
use Rattle.std.specs.Prelude.{◌≡◌, ◌<◌, ◌⊎◌, ℕ, List, ◌∷◌, ◌++◌, length, map, Option, Result, Ok, Err}
use Rattle.hex.specs.Hex.{IsBytes, encode_lower}
use Rattle.ots_base.specs.Told.{IfTold}
use Rattle.ots_inputs.specs.Lines as lines
use Rattle.ots_sums.specs.declared.line.TheConstants.{MAX_LINE}
use Rattle.ots_sums.specs.declared.reading.TheConstants.{MAX_LINES}
use Rattle.ots_sums.specs.declared.reading.SumsError.{SumsError}
use Rattle.ots_sums.specs.declared.reading.SumsError.TheVariants.{ReadFault, BadLine, OutOfMemory}
use Rattle.ots_sums.specs.Names.{IsName, escaped, mark_of}

pub record Entry : Type 0 where
  pub digest : List ℕ
  pub name : List ℕ

-- the digests, and the names
abbrev pub digests : List Entry → List (List ℕ)
digests entries = map (λ e. e.digest) entries

abbrev pub names : List Entry → List (List ℕ)
names entries = map (λ e. e.name) entries

-- A line without its line feed: the digits of the digest, a blank, how the file was read, and the name.
abbrev pub sum_line : ℕ → Entry → List ℕ
sum_line kind e = mark_of e.name ++ encode_lower e.digest ++ 32 ∷ kind ∷ escaped e.name

-- The file was read as text, which a blank tells, or as binary, which an asterisk tells. With its line feed the line
-- has at most MAX_LINE bytes.
pub record IsSumLine (line : List ℕ) (e : Entry) : Type 0 where
  pub kind : ℕ
  pub text_or_binary : (kind ≡ 32) ⊎ (kind ≡ 42)
  pub text : line ≡ sum_line kind e
  pub short : length line < MAX_LINE
  pub long : length e.digest ≡ 32
  pub bytes : IsBytes e.digest
  pub name : IsName e.name

-- 1 to 1,048,576 lines, and nothing else
abbrev pub AreSums : List ℕ → List Entry → Type 0
AreSums bytes entries = lines.AreLines IsSumLine MAX_LINES bytes entries

-- The line with this number, counted from 1, is the first that is none.
abbrev pub IsBadLine : List ℕ → ℕ → Type 0
IsBadLine bytes number = lines.IsBadLine IsSumLine MAX_LINES bytes number

-- what a whole input gives
abbrev pub GivesSums : List ℕ → Result (List Entry) SumsError → Type 0
GivesSums bytes (Ok entries) = AreSums bytes entries
GivesSums bytes (Err (BadLine number)) = IsBadLine bytes number
GivesSums bytes (Err ReadFault) = Unit {0}
GivesSums bytes (Err OutOfMemory) = Unit {0}

-- The input is that which is left where that is told.
pub record ReadsSums (left : Option (List ℕ)) (result : Result (List Entry) SumsError) : Type 0 where
  pub bytes : List ℕ
  pub told : IfTold left (λ b. b ≡ bytes)
  pub gives : GivesSums bytes result
