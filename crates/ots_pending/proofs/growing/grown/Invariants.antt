use Rattle.std.proofs.Common.{◌≤◌, ◌++◌, ◌∷◌, [], ℕ, min, List, Option, drop, false}
use Rattle.ots_tree.specs.declared.token.Token.{Token}
use Rattle.ots_tree.specs.Kept.{beside}
use Rattle.ots_tree.specs.Wire.{Node}
use Rattle.ots_pending.specs.Grown.{ArePut, GrowsInPart, IsBetween}
use Rattle.ots_pending.specs.Listed.{pairs_in}
use Rattle.ots_pending.specs.OnPath.{AreNumbers}
use Rattle.ots_pending.proofs.Windows.{IsOn}
use Rattle.ots_pending.proofs.growing.grown.Given as goal

-- Whatever the tokens that are left become stands after what is made, where trees are put in the window.
abbrev pub invariant-loop-at : goal.invariant-loop-at
invariant-loop-at l = record {
  numbers : AreNumbers l.listing.messages l.path;
  on : IsOn l.window.from l.window.room l.at l.count l.next l.length;
  part : (given : List (Option Node)) → ArePut (pairs_in l.listing) given l.ready → (stop total : ℕ) → min stop l.count ≤ l.next
      → (others : List Token) → GrowsInPart (pairs_in l.listing) given (IsBetween l.window.from stop) total l.after_fork l.count l.path.messages (drop l.at (beside l.tokens l.depths)) others
      → GrowsInPart (pairs_in l.listing) given (IsBetween l.window.from stop) total false 0 (l.fn.digest ∷ []) (beside l.tokens l.depths) (l.made.items ++ others);
}
