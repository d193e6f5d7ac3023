use Rattle.std.proofs.Common.{◌≡◌, length, map}
use Rattle.ots_http.specs.Seen.{LinkSeen}
use Rattle.ots_gateway.proofs.round.finish_all.Given as goal

-- The links are seen as they were.
abbrev pub invariant-loop-i : goal.invariant-loop-i
invariant-loop-i g l = record {
  same : map {B = LinkSeen} (λ k. record { told = g.L.Link.told k; faults = g.L.Link.faults k }) l.links
      ≡ map {B = LinkSeen} (λ k. record { told = g.L.Link.told k; faults = g.L.Link.faults k }) l.fn.links;
  long : length l.links ≡ length l.fn.links;
}
