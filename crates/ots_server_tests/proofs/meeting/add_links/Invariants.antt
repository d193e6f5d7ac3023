use Rattle.std.proofs.Common.{All, Some}
use Rattle.ots_outside.specs.Link.{IsFresh}
use Rattle.ots_server_tests.proofs.meeting.add_links.Given as goal

-- No link was read or written yet.
abbrev pub invariant-loop : goal.invariant-loop
invariant-loop l = All (λ link. IsFresh (Some link.link.link) link.link.faults) l.links.items
