use Rattle.std.proofs.Common.{refl, true, false}
use Rattle.ots_file.specs.Events.FileEvent.{synced}
use Rattle.ots_file.specs.Told.{quiet_is}
use Rattle.ots_file.proofs.runs.sync_file.Goals as goal

pub returns-in-Ok-clause-quiet : goal.returns-in-Ok-clause-quiet
returns-in-Ok-clause-quiet g c = quiet_is _ (synced true) _ _ c.in-Ok.ensures.noted refl

pub returns-in-Err-clause-quiet : goal.returns-in-Err-clause-quiet
returns-in-Err-clause-quiet g c = quiet_is _ (synced false) _ _ c.in-Err.ensures.noted refl
