use Rattle.std.proofs.Common.{refl}
use Rattle.ots_inputs.proofs.Meant.{handed_on}
use Rattle.ots_calendar_inputs.specs.Old.{too_big}
use Rattle.ots_calendar_inputs.proofs.Olds.{old_damaged}
use Rattle.ots_calendar_inputs.proofs.old.entries_of.Goals as goal

pub returns-in-Err-Damaged : goal.returns-in-Err-Damaged
returns-in-Err-Damaged c =
    old_damaged c.args.read c.in-Ok.bytes c.deref.result.now c.in-Err-Damaged.field-0 c.in-Err-Damaged.place c.in-Ok.is c.deref.ensures.value c.in-Err-Damaged.field-0-is c.requires c.in-Err-Damaged.ensures.err

pub returns : goal.returns
returns c = handed_on _ _ c.args.read c.in-Err.error c.refused_as.result _ c.in-Err.is c.refused_as.ensures (λ bytes long. too_big long refl)
