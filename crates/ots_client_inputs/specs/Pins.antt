-- A file that is pins or none.
use Rattle.std.specs.Prelude.{◌≡◌, ℕ, List, Vec}
use Rattle.std.specs.declared.alloc.Global.{Global}
use Rattle.ots_chain.specs.Pins.{ArePins, IsBadLine}
use Rattle.ots_chain.specs.declared.pins.Pin.{Pin}
use Rattle.ots_chain.specs.declared.pins.PinsError.{PinsError}
use Rattle.ots_chain.specs.declared.pins.PinsError.TheVariants as pins
use Rattle.ots_inputs.specs.declared.error.InputError.{InputError}
use Rattle.ots_inputs.specs.declared.error.InputError.TheVariants.{ReadFault, Refused, OutOfMemory}
use Rattle.ots_client_text.specs.declared.status.Status.{Status}
use Rattle.ots_client_text.specs.declared.status.Status.TheVariants.{BadPins}

-- the pins of all its lines
abbrev pub ArePinsOf : List ℕ → Vec Pin Global → Type 0
ArePinsOf bytes pins = ArePins bytes pins.items

-- Its first line that is none is told, counted from 1.
abbrev pub RefusesPins : List ℕ → Status → Type 0
RefusesPins bytes s = (number : ℕ) × IsBadLine bytes number × (s ≡ BadPins number)

-- ---- for the code

-- why a source gives no pins
abbrev pub refused_pins : PinsError → InputError Status
refused_pins pins.ReadFault = ReadFault
refused_pins (pins.BadPins number) = Refused (BadPins number)
refused_pins pins.OutOfMemory = OutOfMemory
