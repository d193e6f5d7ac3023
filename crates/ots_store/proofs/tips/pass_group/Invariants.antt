use Rattle.std.proofs.Common.{take, length, ◌≤◌, ◌-◌}
use Rattle.std.specs.List.{AllByRecursion}
use Rattle.ots_store.specs.Order.{tips_of, records_of}
use Rattle.ots_store.specs.Progress.{TipEndsBy}
use Rattle.ots_store.proofs.tips.pass_group.Given as goal

abbrev pub invariant-loop-place : goal.invariant-loop-place
invariant-loop-place l = record {
  there : l.place ≤ length l.group;
  passed : AllByRecursion (TipEndsBy l.covered) (tips_of (records_of (take l.from l.group))) → AllByRecursion (TipEndsBy l.covered) (tips_of (records_of (take l.place l.group)));
}

abbrev pub decreases-loop-place : goal.decreases-loop-place
decreases-loop-place l = length l.group - l.place
