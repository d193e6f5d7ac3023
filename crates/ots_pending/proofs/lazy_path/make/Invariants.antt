use Rattle.std.proofs.Common.{◌≡◌, ◌+◌, ◌-◌, length}
use Rattle.ots_pending.specs.LazyPath.{all_made, IsMade}
use Rattle.ots_pending.proofs.lazy_path.make.Given as goal

-- The messages on the path are the same, and those made are the first of them.
abbrev pub invariant-loop-alloc : goal.invariant-loop-alloc
invariant-loop-alloc l = record {
  made : IsMade l.made.items l.ops;
  same : all_made l.made.items l.ops ≡ all_made l.initial.made.items l.ops;
}

abbrev pub decreases-loop-alloc : goal.decreases-loop-alloc
decreases-loop-alloc l = l.depth + 1 - length l.made.items
