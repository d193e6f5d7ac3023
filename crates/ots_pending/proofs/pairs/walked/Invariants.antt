use Rattle.ots_pending.specs.Listed.{IsKept}
use Rattle.ots_pending.specs.OnPath.{AreNumbers, IsOnWay}
use Rattle.ots_pending.proofs.pairs.walked.Given as goal

-- The pairs are those of what was found, after which stands what the tokens that are left add.
abbrev pub invariant-loop-at : goal.invariant-loop-at
invariant-loop-at l = record {
  kept : IsKept l.listing;
  numbers : AreNumbers l.listing.messages l.path;
  way : IsOnWay l.tokens l.depths l.at l.path.messages l.listing l.fn.digest;
}
