use Rattle.std.proofs.Common.{◌≡◌, drop}
use Rattle.ots_merkle.specs.BlockTree.{climbed}
use Rattle.ots_calendar.proofs.values.climb.Given as goal

abbrev pub invariant-loop-side : goal.invariant-loop-side
invariant-loop-side l = climbed (drop l.side-index l.branch) l.reached ≡ climbed l.branch l.initial.reached
