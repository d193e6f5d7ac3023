use Rattle.ots_address.proofs.AddressLemmas.{host_boundary}
use Rattle.ots_address.proofs.address.Address.host.Goals as goal

pub range-requires-clause-end_boundary : goal.range-requires-clause-end_boundary
range-requires-clause-end_boundary c = rw c.deref.ensures (host_boundary _ _ c.self.inside.port c.self.invariant)
