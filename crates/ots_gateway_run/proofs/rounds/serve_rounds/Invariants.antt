use Rattle.std.proofs.Common.{◌≡◌, ◌≤◌, [], vec_capacity}
use Rattle.ots_outputs.specs.Printed.{SinkStays}
use Rattle.ots_gateway_run.specs.Accepted.{StaysWithin}
use Rattle.ots_gateway_run.specs.Going.{Going}
use Rattle.ots_gateway_run.proofs.rounds.serve_rounds.Given as goal

-- The run goes on.
abbrev pub invariant-loop : goal.invariant-loop
invariant-loop g l = record {
  can : (goal.iterator-loop g).can_next l.iterator';
  finite : (goal.iterator-loop g).is_finite l.iterator';
  empty : l.links.items ≡ [];
  room : l.rounds.round ≤ vec_capacity l.links;
  within : StaysWithin l.rounds.until (g.A.Accepter.accepted l.fn.accepter) (g.A.Accepter.accepted l.accepter);
  going : Going (record { coming = g.A.Accepter.coming; returned = g.A.Accepter.returned; accepted = g.A.Accepter.accepted; accept_faults = g.A.Accepter.faults; link_told = g.A.Link.Link.told; link_faults = g.A.Link.Link.faults; told = g.T.Dialer.told; dial_faults = g.T.Dialer.faults })
      l.rounds.calendars.now l.rounds.min l.rounds.round
      (record { accepter = l.fn.accepter; dialer = l.fn.dialer; nonces = record { left = g.N.Nonces.left l.fn.nonces; faults = g.N.Nonces.faults l.fn.nonces } })
      (record { accepter = l.accepter; dialer = l.dialer; nonces = record { left = g.N.Nonces.left l.nonces; faults = g.N.Nonces.faults l.nonces } })
      (g.K.Sink.taken l.fn.out) (g.K.Sink.taken l.out);
  sink : SinkStays g.K.Sink.faults g.K.Sink.same l.fn.out l.out;
}
