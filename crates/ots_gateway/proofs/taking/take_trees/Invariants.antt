use Rattle.std.proofs.Common.{◌≡◌, ◌≤◌, ◌+◌, ◌++◌, drop, length, take}
use Rattle.ots_base.specs.declared.limits.TheConstants.{MAX_REPLY_BODY}
use Rattle.ots_stamp.specs.Stamped.{good_trees}
use Rattle.ots_gateway.specs.Taking.{taking}
use Rattle.ots_gateway.proofs.taking.take_trees.Given as goal

-- The outcomes up to here were gone through.
abbrev pub invariant-loop-outcome : goal.invariant-loop-outcome
invariant-loop-outcome l = record {
  whole : taking l.way l.fn.outcomes ≡ take l.outcome-index l.outcomes ++ taking l.used (drop l.outcome-index l.outcomes);
  count : l.taken ≡ length (good_trees (take l.outcome-index l.outcomes));
  few : l.taken ≤ l.outcome-index;
  within : l.used ≤ MAX_REPLY_BODY + 1;
  within_list : l.outcome-index ≤ length l.outcomes;
}
