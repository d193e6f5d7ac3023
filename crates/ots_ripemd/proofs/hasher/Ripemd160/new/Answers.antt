use Rattle.ots_ripemd.proofs.Chaining.{keeps_nothing}
use Rattle.ots_ripemd.proofs.hasher.Ripemd160.new.Goals as goal

pub invariant_of-result : goal.invariant_of-result
invariant_of-result c = rw c.nothing.ensures (keeps_nothing _)
