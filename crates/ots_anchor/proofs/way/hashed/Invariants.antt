use Rattle.std.proofs.Common.{◌≡◌, take}
use Rattle.ots_anchor.specs.Path.{hashed}
use Rattle.ots_anchor.proofs.way.hashed.Given as goal

abbrev pub invariant-loop-commitment : goal.invariant-loop-commitment
invariant-loop-commitment l = l.leaves.items ≡ hashed (take l.commitment-index l.commitments)
