use Rattle.ots_gateway_run.proofs.GivesBack.{given_one_more}
use Rattle.ots_gateway_run.proofs.giving_back.give_all_back.Goals as goal

pub loop-accepter-preserved : goal.loop-accepter-preserved
loop-accepter-preserved g c =
    let far = rw c.take_last.ensures.items at c.loop-accepter.invariant.given in
    record {
      given = given_one_more _ _ _ _ _ _ far c.give_back.ensures.returned;
      room = cc;
      coming = cc;
      accepted = cc;
      faults = cc;
    }
