use Rattle.std.proofs.Common.{◌≡◌, ◌-◌, ◌++◌, length, drop}
use Rattle.ots_merkle.specs.BlockTree.{paired}
use Rattle.ots_merkle.proofs.block.paired.Given as goal

abbrev pub invariant-loop-place : goal.invariant-loop-place
invariant-loop-place l = paired l.hashes ≡ l.above.items ++ paired (drop l.place l.hashes)

abbrev pub decreases-loop-place : goal.decreases-loop-place
decreases-loop-place l = length l.hashes - l.place
