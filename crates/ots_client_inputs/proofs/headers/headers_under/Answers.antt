use Rattle.std.proofs.Common.{rules}
use Rattle.ots_headers.specs.HeaderTable.{Table}
use Rattle.ots_inputs.proofs.Came.{opened_refused}
use Rattle.ots_client_inputs.proofs.Reading.{headers_refused, headers_there}
use Rattle.ots_client_inputs.proofs.headers.headers_under.Goals as goal

pub returns-in-Err : goal.returns-in-Err
returns-in-Err g c = record {
  answer = rw c.refused_headers.ensures (headers_refused _ _ _ _ c.in_ok-slot.ensures.not_there (rw (c.new.ensures.shelf, c.new.ensures.slot) c.in_ok-slot.ensures.ok.left) c.args.first c.in-Err.error c.in-Err.ensures.input);
  opened = search rules;
  refused = rw c.refused_headers.ensures (opened_refused Table c.args.name.now _ _ _ (headers_there c.in-Err.error) (search rules));
  kept = record {
    names = search rules;
    slots = search rules;
    short = search rules;
    later = search rules;
    writing = search rules;
  };
}
