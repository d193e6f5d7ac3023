use Rattle.ots_verifier.proofs.verifier.Verifier.begin.Goals as goal

pub invariant_of-result : goal.invariant_of-result
invariant_of-result c = (rw c.nothing.ensures (c.in_ok-begin.ensures.none _ _), c.in_ok-begin.ensures.reserved)
