use Rattle.std.proofs.Common.{ℕ, take}
use Rattle.ots_asking.specs.Outcome.{AreSound, IsSoundGathered}
use Rattle.ots_stamp.specs.Stamped.{GathersAny, good_trees}
use Rattle.ots_stamp.proofs.gathering.gather_good.Given as goal

abbrev pub invariant-loop-outcome : goal.invariant-loop-outcome
invariant-loop-outcome l = record {
  gathered : GathersAny (good_trees (take l.outcome-index l.outcomes)) l.all;
  sound : (n k : ℕ) → AreSound n k (take l.outcome-index l.outcomes) → IsSoundGathered n k l.all;
}
