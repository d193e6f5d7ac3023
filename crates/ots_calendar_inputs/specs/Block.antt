-- A file that is a block or none.
use Rattle.std.specs.Prelude.{◌≡◌, ◌<◌, ◌≤◌, ℕ, List, length}
use Rattle.ots_base.specs.declared.limits.TheConstants.{MAX_PROOF_FILE}
use Rattle.ots_block.specs.Block.{Contents, IsBlock}
use Rattle.ots_block.specs.BlockRead.{HasFault}
use Rattle.ots_block.specs.declared.fault.BlockReason.{BlockReason}
use Rattle.ots_calendar_text.specs.declared.status.DaemonStatus.{DaemonStatus}
use Rattle.ots_calendar_text.specs.declared.status.DaemonStatus.TheVariants.{BadBlock, TooBig}

-- The block that the bytes are, which are no more than are read.
pub record GivesBlock (bytes : List ℕ) (block : Contents) : Type 0 where
  pub within : length bytes ≤ MAX_PROOF_FILE
  pub is_block : IsBlock bytes block

-- There are more bytes than are read, whatever they hold; or no more, and they have this fault.
pub data RefusesBlock (bytes : List ℕ) (s : DaemonStatus) : Type 0 where
  too_big : MAX_PROOF_FILE < length bytes → s ≡ TooBig → RefusesBlock bytes s
  bad_block : (place : ℕ) (reason : BlockReason) → length bytes ≤ MAX_PROOF_FILE → HasFault bytes place reason
      → s ≡ BadBlock place reason → RefusesBlock bytes s
