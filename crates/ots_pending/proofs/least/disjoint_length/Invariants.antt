use Rattle.std.proofs.Common.{◌≡◌, ◌≤◌, ◌+◌, ◌∷◌, [], List, Option, None, drop, map, length}
use Rattle.std.specs.Prelude.{option_map}
use Rattle.ots_tree.specs.Kept.{beside}
use Rattle.ots_tree.specs.Wire.{Node, pre}
use Rattle.ots_pending.specs.Least.{disjoint_length}
use Rattle.ots_pending.specs.Listed.{pairs_in}
use Rattle.ots_pending.specs.OnPath.{AreNumbers}
use Rattle.ots_pending.proofs.least.disjoint_length.Given as goal

-- What was counted and the trees at the tokens that are left are no more than all.
abbrev pub invariant-loop-at : goal.invariant-loop-at
invariant-loop-at l = record {
  numbers : AreNumbers l.listing.messages l.path;
  low : (given : List (Option Node)) → map (option_map pre) given ≡ l.trees → length given ≡ length (pairs_in l.listing)
      → l.total + disjoint_length (pairs_in l.listing) given l.taken l.path.messages (drop l.at (beside l.tokens l.depths))
      ≤ disjoint_length (pairs_in l.listing) given None (l.fn.digest ∷ []) (beside l.tokens l.depths);
}
