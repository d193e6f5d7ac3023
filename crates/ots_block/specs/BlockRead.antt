-- What reading a block answers.
use Rattle.std.specs.Prelude.{◌≡◌, ℕ, ◌-◌, List, length, Result, Ok, Err}
use Rattle.ots_block.specs.declared.fault.BlockReason.{BlockReason}
use Rattle.ots_block.specs.declared.fault.BlockError.{BlockError}
use Rattle.ots_block.specs.declared.fault.BlockError.TheVariants.{BadBlock, OutOfMemory}
use Rattle.ots_block.specs.Block.{Contents}
use Rattle.ots_block.specs.Reading.{Halt, block_at}

-- where reading halts, counted from the start of all bytes
abbrev pub placed : {A : Type 0} → ℕ → Result A Halt → Result A BlockError
placed total (Ok x) = Ok x
placed total (Err h) = Err (BadBlock (total - h.left) h.reason)

-- the block that these bytes are, or their fault
abbrev pub read_block : List ℕ → Result Contents BlockError
read_block bytes = placed (length bytes) (block_at bytes)

-- Reading halts first at the field that begins at this place, for this reason.
abbrev pub HasFault : List ℕ → ℕ → BlockReason → Type 0
HasFault bytes place why = read_block bytes ≡ Err (BadBlock place why)

-- The error is the fault of the bytes, unless memory ran out.
abbrev pub IsBlockError : List ℕ → BlockError → Type 0
IsBlockError bytes (BadBlock place why) = HasFault bytes place why
IsBlockError bytes OutOfMemory = Unit {0}
