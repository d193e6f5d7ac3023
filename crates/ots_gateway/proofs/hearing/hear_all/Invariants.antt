use Rattle.ots_gateway.proofs.Arriving.{Hearing}
use Rattle.ots_gateway.proofs.hearing.hear_all.Given as goal

abbrev pub invariant-loop-i : goal.invariant-loop-i
invariant-loop-i g l = Hearing (λ k. record { told = g.L.Link.told k; faults = g.L.Link.faults k }) l.fn.links l.links l.arrived.items
    (record { left = g.N.Nonces.left l.fn.nonces; faults = g.N.Nonces.faults l.fn.nonces })
    (record { left = g.N.Nonces.left l.nonces; faults = g.N.Nonces.faults l.nonces }) l.i
