use Rattle.std.proofs.Common.{rules}
use Rattle.ots_verifier.specs.declared.checked.Checked.{Checked}
use Rattle.ots_inputs.proofs.Came.{opened_refused}
use Rattle.ots_client_inputs.proofs.Reading.{checked_read, checked_refused, source_there}
use Rattle.ots_client_inputs.proofs.check.checked_under.Goals as goal

pub returns-in-Ok-clause-reads : goal.returns-in-Ok-clause-reads
returns-in-Ok-clause-reads g c = record {
  answer = checked_read _ _ _ _ c.in_ok-slot.ensures.not_there (rw (c.new.ensures.shelf, c.new.ensures.slot) c.in_ok-slot.ensures.ok.left) _ _ c.in-Ok.checked c.in-Ok.ensures.input;
  opened = search rules;
  refused = tt;
  kept = record {
    names = search rules;
    slots = search rules;
    short = search rules;
    later = search rules;
    writing = search rules;
  };
}

pub returns-in-Err-clause-reads : goal.returns-in-Err-clause-reads
returns-in-Err-clause-reads g c = record {
  answer = rw c.refused_source.ensures (checked_refused _ _ _ _ c.in_ok-slot.ensures.not_there (rw (c.new.ensures.shelf, c.new.ensures.slot) c.in_ok-slot.ensures.ok.left) _ _ c.in-Err.error c.in-Err.ensures.input);
  opened = search rules;
  refused = rw c.refused_source.ensures (opened_refused Checked c.args.name.now _ _ _ (source_there c.in-Err.error) (search rules));
  kept = record {
    names = search rules;
    slots = search rules;
    short = search rules;
    later = search rules;
    writing = search rules;
  };
}
