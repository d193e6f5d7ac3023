use Rattle.std.proofs.Common.{◌≡◌, ◌≤◌, ◌++◌, drop}
use Rattle.ots_tree.specs.Kept.{beside}
use Rattle.ots_tree.specs.PendingWalk.{walked}
use Rattle.ots_tree.proofs.pending.pending_of.Given as goal

-- What the tokens that are left add stands after what was found.
abbrev pub invariant-loop-at : goal.invariant-loop-at
invariant-loop-at l = record {
  few : l.path ≤ l.at;
  walk : l.found.items ++ walked l.path l.messages (drop l.at (beside l.tokens l.depths)) ≡ walked 0 l.fn.messages (beside l.tokens l.depths);
}
