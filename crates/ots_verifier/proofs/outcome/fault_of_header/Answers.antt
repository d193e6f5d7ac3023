use Rattle.ots_detached.proofs.Headers.{header_none}
use Rattle.ots_verifier.proofs.Outcomes.{not_some}
use Rattle.ots_verifier.proofs.outcome.fault_of_header.Goals as goal

pub unreachable-requires : goal.unreachable-requires
unreachable-requires c = not_some _ c.requires (header_none _ _ _ (rw c.min.ensures at c.in-Ok.ensures.ok))
