-- Bytes are one block, or have one fault.
use Rattle.std.specs.Prelude.{◌≡◌, ℕ, List}
use Rattle.ots_block.specs.declared.fault.BlockReason.{BlockReason}
use Rattle.ots_block.specs.Block.{Contents, IsBlock}
use Rattle.ots_block.specs.BlockRead.{HasFault}

-- they are this block and no other
pub record HasOneBlock (bytes : List ℕ) : Type 0 where
  pub block : Contents
  pub is : IsBlock bytes block
  pub only : (other : Contents) → IsBlock bytes other → other ≡ block

-- they have this fault and no other
pub record HasOneFault (bytes : List ℕ) : Type 0 where
  pub place : ℕ
  pub why : BlockReason
  pub has : HasFault bytes place why
  pub only : (other : ℕ) (cause : BlockReason) → HasFault bytes other cause → (other ≡ place) × (cause ≡ why)
