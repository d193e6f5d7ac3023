-- What `chain` answers of headers, and of pins where they are given.
use Rattle.std.specs.Prelude.{◌≡◌, ℕ, List, [], ◌∷◌, length, Option, Some, None, Vec}
use Rattle.std.specs.Option.{option_map, option_and_then}
use Rattle.std.specs.declared.alloc.Global.{Global}
use Rattle.ots_chain.specs.Chain.{IsCheckOf}
use Rattle.ots_chain.specs.Pins.{first_failing}
use Rattle.ots_chain.specs.declared.checking.ChainCheck.TheVariants as check
use Rattle.ots_chain.specs.declared.checking.ChainFault.{ChainFault}
use Rattle.ots_chain.specs.declared.pins.Pin.{Pin}
use Rattle.ots_headers.specs.HeaderTable.{Table}
use Rattle.ots_client_text.specs.Lines.{chain_text}
use Rattle.ots_client_text.specs.declared.status.Status.TheVariants.{Done, Broken, PinFails}
use Rattle.ots_checking.specs.Verified.{WithTable}
use Rattle.ots_client_endings.specs.Ending.{Ending, printing, refused}
use Rattle.ots_client_endings.specs.Reading.{RefusesInput, WithInput}
use Rattle.ots_client_inputs.specs.Inputs.{Input, headers_under, pins_under}
use Rattle.ots_client_inputs.specs.Pins.{RefusesPins}
use Rattle.ots_client_words.specs.Words.{Chaining}
use Rattle.ots_chain.specs.Pins.{ArePins}
use Rattle.ots_inputs.specs.Under.{HasUnder}
use Rattle.ots_outside.specs.Shelf.{Names}

-- the height of the first pin that the headers do not have
abbrev pub failing_of : Table → Option (List Pin) → Option ℕ
failing_of t pins = option_and_then (first_failing t) pins

-- A header is not good, which is told of the first that is not. Or all are good: the first pin that they do not have is
-- told, or there is none, and the chain is printed.
pub data ChecksChain (t : Table) (pins : Option (List Pin)) (e : Ending) : Type 0 where
  is_broken : (height : ℕ) (fault : ChainFault) → IsCheckOf t (check.Broken height fault)
      → e ≡ refused [] (Broken height fault) → ChecksChain t pins e
  pin_fails : (first last : ℕ) (tip : List ℕ) (height : ℕ) → IsCheckOf t (check.Whole first last tip)
      → failing_of t pins ≡ Some height → e ≡ refused [] (PinFails height) → ChecksChain t pins e
  is_whole : (first last : ℕ) (tip : List ℕ) → IsCheckOf t (check.Whole first last tip) → failing_of t pins ≡ None
      → e ≡ printing Done (chain_text first last tip (option_map length pins)) → ChecksChain t pins e

-- ---- names

-- the pins that may be given
abbrev pub perhaps_pins : Option (List ℕ) → List Input
perhaps_pins None = []
perhaps_pins (Some name) = pins_under name ∷ []

-- what is read, in order
abbrev pub inputs_chained : Chaining → List Input
inputs_chained c = headers_under c.headers ∷ perhaps_pins c.pins

-- pins that may be given
abbrev pub WithPins : Option Names → List ℕ → (List Pin → Ending → Type 0) → Ending → Type 0
WithPins told name = WithInput told name ArePins RefusesPins

abbrev pub WithPerhapsPins : Option Names → Option (List ℕ) → (Option (List Pin) → Ending → Type 0) → Ending → Type 0
WithPerhapsPins told None goes_on e = goes_on None e
WithPerhapsPins told (Some name) goes_on e = WithPins told name (λ pins. goes_on (Some pins)) e

-- They are under their name, or none are given.
abbrev pub HasPerhapsPins : Option Names → Option (List ℕ) → Option (List Pin) → Type 0
HasPerhapsPins told None None = Unit {0}
HasPerhapsPins told None (Some pins) = ⊥
HasPerhapsPins told (Some name) None = ⊥
HasPerhapsPins told (Some name) (Some pins) = HasUnder told name (λ bytes. ArePins bytes pins)

-- They are given, and refused.
abbrev pub RefusesPerhapsPins : Option Names → Option (List ℕ) → Ending → Type 0
RefusesPerhapsPins told None e = ⊥
RefusesPerhapsPins told (Some name) e = RefusesInput told name RefusesPins e

-- The headers are read, then the pins where they are given, and both are checked.
abbrev pub ChecksFile : Option Names → Chaining → Ending → Type 0
ChecksFile told c = WithTable told c.headers (λ table. WithPerhapsPins told c.pins (ChecksChain table))

-- ---- for the code

-- the pins of a vector that may be given
abbrev pub items_of : Option (Vec Pin Global) → Option (List Pin)
items_of pins = option_map (λ v. v.items) pins
