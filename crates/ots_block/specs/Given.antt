-- For the code alone: what a function returned is what reading gives.
use Rattle.std.specs.Prelude.{◌≡◌, ℕ, Result, Ok, Err}
use Rattle.ots_block.specs.declared.fault.BlockError.{BlockError}
use Rattle.ots_block.specs.declared.fault.BlockError.TheVariants.{BadBlock, OutOfMemory}
use Rattle.ots_block.specs.declared.stop.Stop.{Stop}
use Rattle.ots_block.specs.Reading.{Halt}
use Rattle.ots_block.specs.BlockRead.{placed}

abbrev pub halt_of : Stop → Halt
halt_of s = record { left = s.left; reason = s.reason }

-- what was returned, seen by a view
abbrev pub Gives : {X Y : Type 0} → (X → Y) → Result X Stop → Result Y Halt → Type 0
Gives view (Ok x) read = read ≡ Ok (view x)
Gives view (Err s) read = read ≡ Err (halt_of s)

-- The same of a function that takes memory, over `total` bytes.
abbrev pub Fails : {Y : Type 0} → ℕ → BlockError → Result Y Halt → Type 0
Fails total (BadBlock place why) read = placed total read ≡ Err (BadBlock place why)
Fails total OutOfMemory read = Unit {0}

abbrev pub GivesIn : {X Y : Type 0} → ℕ → (X → Y) → Result X BlockError → Result Y Halt → Type 0
GivesIn total view (Ok x) read = read ≡ Ok (view x)
GivesIn total view (Err e) read = Fails total e read
