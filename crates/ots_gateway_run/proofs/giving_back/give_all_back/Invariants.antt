use Rattle.std.proofs.Common.{◌≡◌, length, vec_capacity}
use Rattle.ots_gateway_run.proofs.GivesBack.{GivenSoFar}
use Rattle.ots_gateway_run.proofs.giving_back.give_all_back.Given as goal

-- The first links were given back, and the others are left, the last of them first.
abbrev pub invariant-loop-accepter : goal.invariant-loop-accepter
invariant-loop-accepter g l =
    let accepter = g.A.Accepter in
    let returned = accepter.returned in
    record {
      given : GivenSoFar l.fn.links.items l.links.items (returned l.fn.accepter) (returned l.accepter);
      room : vec_capacity l.links ≡ vec_capacity l.fn.links;
      coming : accepter.coming l.accepter ≡ accepter.coming l.fn.accepter;
      accepted : accepter.accepted l.accepter ≡ accepter.accepted l.fn.accepter;
      faults : accepter.faults l.accepter ≡ accepter.faults l.fn.accepter;
    }

abbrev pub decreases-loop-accepter : goal.decreases-loop-accepter
decreases-loop-accepter g l = length l.links.items
