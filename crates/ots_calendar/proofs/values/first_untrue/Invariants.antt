use Rattle.std.proofs.Common.{take}
use Rattle.std.specs.List.{AllByRecursion}
use Rattle.ots_store.specs.Order.{commits_of}
use Rattle.ots_kept_trees.specs.Kept.{AreKept}
use Rattle.ots_calendar.specs.Seen.{IsSeen}
use Rattle.ots_calendar.specs.Values.{IsTrue}
use Rattle.ots_calendar.proofs.values.first_untrue.Given as goal

abbrev pub invariant-loop-i : goal.invariant-loop-i
invariant-loop-i g l = record {
  kept : AreKept (commits_of l.store.records) l.trees;
  seen : IsSeen l.store.records l.i l.seen;
  so_far : AllByRecursion (IsTrue (commits_of l.store.records)) (take l.i l.store.records);
}
