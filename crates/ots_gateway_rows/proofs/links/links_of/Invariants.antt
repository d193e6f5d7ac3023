use Rattle.std.proofs.Common.{All, Some}
use Rattle.ots_outside.specs.Link.{IsFresh}
use Rattle.ots_gateway_rows.proofs.links.links_of.Given as goal

-- No link was read or written yet.
abbrev pub invariant-loop-link : goal.invariant-loop-link
invariant-loop-link l = All (λ link. IsFresh (Some link.link) link.faults) l.links.items
