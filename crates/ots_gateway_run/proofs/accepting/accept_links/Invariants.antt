use Rattle.std.proofs.Common.{◌≡◌, ◌≤◌, ◌-◌, length, vec_capacity}
use Rattle.ots_gateway_run.specs.Accepted.{AreFresh, Comes, StaysWithin, counted}
use Rattle.ots_gateway_run.proofs.accepting.accept_links.Given as goal

-- The links so far were accepted. That the count is at most 2^64 - 1 is known only once it was asked for.
abbrev pub invariant-loop-until : goal.invariant-loop-until
invariant-loop-until g l =
    let accepter = g.A.Accepter in
    let links = l.links.items in
    record {
      comes : Comes links (accepter.coming l.fn.accepter) (accepter.coming l.accepter);
      fresh : AreFresh g.A.Link.Link.told g.A.Link.Link.faults links;
      returned : accepter.returned l.accepter ≡ accepter.returned l.fn.accepter;
      count : counted (accepter.accepted l.accepter) 0 ≡ counted (accepter.accepted l.fn.accepter) (length links);
      within : StaysWithin l.until (accepter.accepted l.fn.accepter) (accepter.accepted l.accepter);
      later : accepter.faults l.fn.accepter ≤ accepter.faults l.accepter;
      few : length links ≤ l.round;
      room : vec_capacity l.links ≡ vec_capacity l.fn.links;
    }

abbrev pub decreases-loop-until : goal.decreases-loop-until
decreases-loop-until g l = l.round - length l.links.items
