use Rattle.std.proofs.Common.{◌≡◌, ◌^◌, ◌<◌, ◌++◌, length}
use Rattle.ots_merkle.specs.BlockTree.{block_branch}
use Rattle.ots_merkle.proofs.block.block_branch.Given as goal

abbrev pub invariant-levels : goal.invariant-levels
invariant-levels l = record {
  within : l.place < length l.level.items;
  most : length l.level.items < 2 ^ 32;
  branch : l.branch ++ block_branch l.level.items l.place ≡ block_branch l.fn.txids l.fn.i;
}

abbrev pub decreases-levels : goal.decreases-levels
decreases-levels l = length l.level.items
