use Rattle.std.proofs.Common.{◌≡◌, ◌^◌, ◌<◌, ◌≤◌, length}
use Rattle.ots_merkle.specs.BlockTree.{block_root}
use Rattle.ots_merkle.proofs.block.block_root.Given as goal

abbrev pub invariant-levels : goal.invariant-levels
invariant-levels l = record {
  least : 1 ≤ length l.level.items;
  most : length l.level.items < 2 ^ 32;
  root : block_root l.level.items ≡ block_root l.fn.txids;
}

abbrev pub decreases-levels : goal.decreases-levels
decreases-levels l = length l.level.items
