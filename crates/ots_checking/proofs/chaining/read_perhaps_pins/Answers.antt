use Rattle.ots_client_endings.proofs.Reading.{named, named_stop, reads_into, stop_into}
use Rattle.ots_client_inputs.proofs.Inputs.{some_pins}
use Rattle.ots_checking.proofs.chaining.read_perhaps_pins.Goals as goal

pub returns-in-Ok : goal.returns-in-Ok
returns-in-Ok g c = rw c.in-Some.is (reads_into (λ h. h) (named (some_pins c.in-Some.name.now) c.in-Ok.ensures))

pub returns-in-Err : goal.returns-in-Err
returns-in-Err g c = rw c.in-Some.is (stop_into (λ e h. h) (named_stop (some_pins c.in-Some.name.now) c.in-Err.ensures))
