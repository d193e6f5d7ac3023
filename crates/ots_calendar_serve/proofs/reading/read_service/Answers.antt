use Rattle.std.proofs.Common.{refl}
use Rattle.ots_calendar_serve.proofs.Serving.{address_stops, key_stops, service_given}
use Rattle.ots_calendar_serve.proofs.reading.read_service.Goals as goal

pub returns-in-Ok-read_key : goal.returns-in-Ok-read_key
returns-in-Ok-read_key g c = service_given _ _ _ _ _ _ c.in-Ok.ensures c.in-Ok-read_key.key _ refl refl c.in-Ok-read_key.ensures

pub returns-in-Err-read_key : goal.returns-in-Err-read_key
returns-in-Err-read_key g c = key_stops _ _ _ _ _ _ c.in-Ok.ensures c.in-Err-read_key.stop c.in-Err-read_key.ensures

pub returns-in-Err : goal.returns-in-Err
returns-in-Err g c = address_stops _ _ _ _ refl c.in-Err.ensures
