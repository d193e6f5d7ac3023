use Rattle.std.proofs.Common.{ℕ, List, rules}
use Rattle.ots_inputs.proofs.Came.{opened_refused}
use Rattle.ots_client_inputs.proofs.Reading.{target_refused, target_there}
use Rattle.ots_client_inputs.proofs.target.digest_under.Goals as goal

pub returns-in-Err-clause-reads : goal.returns-in-Err-clause-reads
returns-in-Err-clause-reads g c = record {
  answer = rw c.refused_target.ensures (target_refused _ _ _ _ c.in_ok-slot.ensures.not_there (rw (c.new.ensures.shelf, c.new.ensures.slot) c.in_ok-slot.ensures.ok.left) c.args.hash c.in-Err.error c.in-Err.ensures.input);
  opened = search rules;
  refused = rw c.refused_target.ensures (opened_refused (List ℕ) c.args.name.now _ _ _ (target_there c.in-Err.error) (search rules));
  kept = record {
    names = search rules;
    slots = search rules;
    short = search rules;
    later = search rules;
    writing = search rules;
  };
}
