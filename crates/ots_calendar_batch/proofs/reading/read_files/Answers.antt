use Rattle.std.proofs.Common.{refl}
use Rattle.ots_calendar_batch.proofs.Gathering.{digests_stop, files_given, key_stops}
use Rattle.ots_calendar_batch.proofs.reading.read_files.Goals as goal

pub returns-in-Ok-read_digests : goal.returns-in-Ok-read_digests
returns-in-Ok-read_digests g c = files_given _ _ _ _ _ _ _ _ _ c.in-Ok.ensures c.in-Ok-read_digests.digests _ refl refl refl c.in-Ok-read_digests.ensures

pub returns-in-Err-read_digests : goal.returns-in-Err-read_digests
returns-in-Err-read_digests g c = digests_stop _ _ _ _ _ _ _ _ _ c.in-Ok.ensures c.in-Err-read_digests.stop c.in-Err-read_digests.ensures

pub returns-in-Err : goal.returns-in-Err
returns-in-Err g c = key_stops _ _ _ _ _ _ c.in-Err.stop c.in-Err.ensures
