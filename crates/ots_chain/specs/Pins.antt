-- A file of pins: a line each, of a height, a space, the block hash that its header is to have, and a line feed.
use Rattle.std.specs.Prelude.{◌≡◌, ◌-◌, ◌^◌, ◌≤◌, ℕ, Bool, false, List, [], ◌∷◌, ◌++◌, length, reverse, decimal}
use Rattle.std.specs.Prelude.{bytes_eq, Option, Some, None, Result, Ok, Err, Vec, if◌then◌else◌}
use Rattle.std.specs.declared.alloc.Global.{Global}
use Rattle.hex.specs.Hex.{IsBytes, encode_lower}
use Rattle.ots_base.specs.Told.{IfTold}
use Rattle.ots_headers.specs.declared.header.Header.{Header}
use Rattle.ots_headers.specs.HeaderTable.{Table, header_at}
use Rattle.ots_inputs.specs.Lines as lines
use Rattle.ots_chain.specs.declared.pins.TheConstants.{MAX_PINS}
use Rattle.ots_chain.specs.declared.pins.Pin.{Pin}
use Rattle.ots_chain.specs.declared.pins.PinsError.{PinsError}
use Rattle.ots_chain.specs.declared.pins.PinsError.TheVariants.{ReadFault, BadPins, OutOfMemory}
use Rattle.ots_chain.specs.Chain.{hash_of}

-- The bytes before the line feed: the height in decimal digits without a leading zero, and the hash in lower-case
-- hexadecimal digits, its last byte first, as it is usually shown.
pub record IsPin (line : List ℕ) (pin : Pin) : Type 0 where
  pub text : line ≡ decimal pin.height ++ 32 ∷ encode_lower (reverse pin.hash)
  pub height : pin.height ≤ 2 ^ 63 - 1
  pub long : length pin.hash ≡ 32
  pub bytes : IsBytes pin.hash

-- 1 to 1,024 lines, and nothing else
abbrev pub ArePins : List ℕ → List Pin → Type 0
ArePins bytes pins = lines.AreLines IsPin MAX_PINS bytes pins

-- The line with this number, counted from 1, is the first that is none.
abbrev pub IsBadLine : List ℕ → ℕ → Type 0
IsBadLine bytes number = lines.IsBadLine IsPin MAX_PINS bytes number

-- what a whole input gives
abbrev pub GivesPins : List ℕ → Result (Vec Pin Global) PinsError → Type 0
GivesPins bytes (Ok pins) = ArePins bytes pins.items
GivesPins bytes (Err (BadPins number)) = IsBadLine bytes number
GivesPins bytes (Err ReadFault) = Unit {0}
GivesPins bytes (Err OutOfMemory) = Unit {0}

-- The input is that which is left where that is told.
pub record ReadsPins (left : Option (List ℕ)) (result : Result (Vec Pin Global) PinsError) : Type 0 where
  pub bytes : List ℕ
  pub told : IfTold left (λ b. b ≡ bytes)
  pub gives : GivesPins bytes result

-- whether a header is there, and has this hash
abbrev pub has_hash : Option Header → List ℕ → Bool
has_hash None hash = false
has_hash (Some header) hash = bytes_eq (hash_of header) hash

-- whether a table has a header of the pin's height with its hash
abbrev pub holds : Table → Pin → Bool
holds t pin = has_hash (header_at t pin.height) pin.hash

-- the height of the first pin that a table does not hold
abbrev pub first_failing : Table → List Pin → Option ℕ
first_failing t [] = None
first_failing t (pin ∷ pins) = if holds t pin then first_failing t pins else Some pin.height
