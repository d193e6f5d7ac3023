use Rattle.std.proofs.Common.{◌≡◌, take}
use Rattle.ots_tree.specs.Kept.{beside}
use Rattle.ots_tree.proofs.listing.copied_beside.Given as goal

abbrev pub invariant-loop-at : goal.invariant-loop-at
invariant-loop-at l = l.listing.items ≡ take l.at (beside l.tokens l.depths)
