-- When `chain` is done, in one sentence: the files are headers and pins, each header is good, and the headers have the
-- block hashes of the pins.
use Rattle.std.specs.Prelude.{◌≡◌, ◌+◌, List, length, Option, Some, None}
use Rattle.ots_chain.specs.Chain.{AreGood}
use Rattle.ots_chain.specs.declared.pins.Pin.{Pin}
use Rattle.ots_headers.specs.HeaderTable.{Table}
use Rattle.ots_headers.specs.TableRead.{IsTableOf}
use Rattle.ots_outside.specs.Shelf.{Names}
use Rattle.ots_client_words.specs.Words.{Chaining}
use Rattle.ots_checking.specs.Chain.{HasPerhapsPins, failing_of}
use Rattle.ots_inputs.specs.Under.{HasUnder}

-- Under the names that `chain` reads are headers, all of them good, and pins that fail nowhere, where pins are given.
pub record HasWholeChain (names : Names) (c : Chaining) : Type 0 where
  pub table : Table
  pub pins : Option (List Pin)
  pub of_headers : HasUnder (Some names) c.headers.name (λ bytes. IsTableOf c.headers.first bytes table)
  pub of_pins : HasPerhapsPins (Some names) c.pins pins
  pub good : AreGood table (table.first + length table.headers)
  pub held : failing_of table pins ≡ None
