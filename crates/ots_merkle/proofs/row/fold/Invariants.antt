use Rattle.std.proofs.Common.{◌≡◌, drop, None}
use Rattle.ots_merkle.specs.Row.{folded}
use Rattle.ots_merkle.proofs.row.fold.Given as goal

abbrev pub invariant-loop-level : goal.invariant-loop-level
invariant-loop-level l = folded l.row None ≡ folded (drop l.level-index l.row) l.after
