use Rattle.std.proofs.Common.{refl}
use Rattle.ots_calendar_batch.proofs.Gathering.{address_stops, with_address}
use Rattle.ots_calendar_batch.proofs.reading.read_round.Goals as goal

pub returns-in-Ok : goal.returns-in-Ok
returns-in-Ok g c = with_address _ _ _ _ _ _ c.read_files.result c.in-Ok.ensures c.read_files.ensures

pub returns-in-Err : goal.returns-in-Err
returns-in-Err g c = address_stops _ _ _ _ refl c.in-Err.ensures
