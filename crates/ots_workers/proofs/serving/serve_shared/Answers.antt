use Rattle.ots_workers.proofs.Within.{all_more}
use Rattle.ots_workers.proofs.serving.serve_shared.Goals as goal

pub returns-clause-within : goal.returns-clause-within
returns-clause-within g c = λ fresh whole.
    let d = c.work_alone-desk.result.0 in
    all_more g.A.Link.Link.told g.A.Link.Link.faults c.join.result.seen d.pass.seen c.join.ensures.seen.1 _ (d.answered fresh whole)
