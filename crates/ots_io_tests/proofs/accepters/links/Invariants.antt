use Rattle.std.proofs.Common.{All, Some}
use Rattle.ots_io.specs.Link.{IsFresh}
use Rattle.ots_io_tests.proofs.accepters.links.Given as goal

-- The links so far are fresh.
abbrev pub invariant-loop-input : goal.invariant-loop-input
invariant-loop-input l = All (λ link. IsFresh (Some link.link) link.faults) l.links.items
