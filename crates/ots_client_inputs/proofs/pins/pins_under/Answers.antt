use Rattle.std.proofs.Common.{rules}
use Rattle.std.specs.Prelude.{Vec}
use Rattle.std.specs.declared.alloc.Global.{Global}
use Rattle.ots_chain.specs.declared.pins.Pin.{Pin}
use Rattle.ots_inputs.proofs.Came.{opened_refused}
use Rattle.ots_client_inputs.proofs.Reading.{pins_given, pins_refused, pins_there}
use Rattle.ots_client_inputs.proofs.pins.pins_under.Goals as goal

pub returns-in-Ok : goal.returns-in-Ok
returns-in-Ok g c = record {
  answer = pins_given _ _ _ c.in_ok-slot.ensures.not_there (rw (c.new.ensures.shelf, c.new.ensures.slot) c.in_ok-slot.ensures.ok.left) c.in-Ok.pins c.in-Ok.ensures.pins;
  opened = search rules;
  refused = tt;
  kept = record {
    names = search rules;
    slots = search rules;
    short = search rules;
    later = search rules;
    writing = search rules;
  };
}

pub returns-in-Err : goal.returns-in-Err
returns-in-Err g c = record {
  answer = rw c.refused_pins.ensures (pins_refused _ _ _ c.in_ok-slot.ensures.not_there (rw (c.new.ensures.shelf, c.new.ensures.slot) c.in_ok-slot.ensures.ok.left) c.in-Err.error c.in-Err.ensures.pins);
  opened = search rules;
  refused = rw c.refused_pins.ensures (opened_refused (Vec Pin Global) c.args.name.now _ _ _ (pins_there c.in-Err.error) (search rules));
  kept = record {
    names = search rules;
    slots = search rules;
    short = search rules;
    later = search rules;
    writing = search rules;
  };
}
