use Rattle.std.proofs.Common.{refl}
use Rattle.ots_inputs.proofs.Meant.{handed_on}
use Rattle.ots_calendar_inputs.specs.Block.{too_big}
use Rattle.ots_calendar_inputs.proofs.Blocks.{block_refused}
use Rattle.ots_calendar_inputs.proofs.block.block_of.Goals as goal

pub returns-in-Err-BadBlock : goal.returns-in-Err-BadBlock
returns-in-Err-BadBlock c =
    block_refused c.args.read c.in-Ok.bytes c.deref.result.now c.in-Err-BadBlock.field-0 c.in-Err-BadBlock.place c.in-Err-BadBlock.reason
    c.in-Ok.is c.deref.ensures.value c.in-Err-BadBlock.field-0-is c.requires c.in-Err-BadBlock.ensures.err

pub returns : goal.returns
returns c = handed_on _ _ c.args.read c.in-Err.error c.refused_as.result _ c.in-Err.is c.refused_as.ensures (λ bytes long. too_big long refl)
