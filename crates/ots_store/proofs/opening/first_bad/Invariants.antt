use Rattle.std.proofs.Common.{take, ◌≤◌, ◌+◌, List, []}
use Rattle.std.specs.List.{AllByRecursion}
use Rattle.ots_store.specs.Opening.{FollowTo}
use Rattle.ots_store.specs.Order.{InOrder}
use Rattle.ots_store.specs.Progress.{Passed, IsProgress}
use Rattle.ots_store.specs.Records.{Record, IsRecord}
use Rattle.ots_store.proofs.opening.first_bad.Given as goal

abbrev pub invariant-loop-i : goal.invariant-loop-i
invariant-loop-i l = record {
  each : AllByRecursion IsRecord (take l.i l.entries);
  passed : Passed (take l.i l.entries) l.progress;
  few : l.progress.commits ≤ l.fn.before.commits + l.i;
  follow : (records : List Record) → InOrder [] records → IsProgress records l.tips [] l.fn.before → FollowTo records (take l.i l.entries) l.tips l.progress;
}
