use Rattle.std.proofs.Common.{rules}
use Rattle.ots_inputs.proofs.Meant.{handed_on}
use Rattle.ots_calendar_inputs.proofs.key.key_of.Goals as goal

pub returns : goal.returns
returns c = handed_on _ _ c.args.read c.in-Err.error c.refused_as.result _ c.in-Err.is c.refused_as.ensures (λ bytes long. search rules)
